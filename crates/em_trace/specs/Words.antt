-- The line that a text spells, as a function of the text: this project's own.
use Rattle.std.specs.Prelude.{ℕ, ◌^◌, ℤ, pos, neg_ℤ, ◌&&◌, nat_eq, nat_le, nat_lt, List, [], ◌∷◌, Option, Some, None, if◌then◌else◌, codes}
use Rattle.std.specs.Fmt.{decimal}
use Rattle.std.specs.List.{slice_split}
use Rattle.std.specs.Option.{option_map}
use Rattle.std.specs.Str.{bytes_eq}
use Rattle.std.specs.Str.Parse.{digits_value}
use Rattle.em_base.specs.declared.ids.MsgId.{MsgId}
use Rattle.em_base.specs.declared.ids.PortId.{PortId}
use Rattle.em_base.specs.declared.ids.SemId.{SemId}
use Rattle.em_base.specs.declared.ids.TaskId.{TaskId}
use Rattle.em_trace.specs.declared.lines.Line.{Line}
use Rattle.em_trace.specs.declared.lines.Line.TheVariants.{Rel, Dropped, JobEnd, Acq, Free, Out, Sig, Put, Get, Refused, Faulted, Gone, Exited}

-- ---- the words

-- the number of 64 bits that a word spells
unfoldable pub count_of : List ℕ → Option ℕ
count_of text =
    if nat_lt (digits_value 10 text) (2 ^ 64) && bytes_eq (decimal (digits_value 10 text)) text then Some (digits_value 10 text)
    else None

-- a number, where it is below a limit
abbrev pub below : ℕ → Option ℕ → Option ℕ
below limit None = None
below limit (Some n) = if nat_lt n limit then Some n else None

-- a number of 8 bits, and one of 32
abbrev pub byte_of : List ℕ → Option ℕ
byte_of text = below (2 ^ 8) (count_of text)

abbrev pub word_of : List ℕ → Option ℕ
word_of text = below (2 ^ 32) (count_of text)

-- the code below zero of a number from 1 to 10
abbrev pub negative : Option ℕ → Option ℤ
negative None = None
negative (Some n) = if nat_lt 0 n && nat_le n 10 then Some (neg_ℤ (pos n)) else None

-- a code: a minus sign and a number
unfoldable pub code_of : List ℕ → Option ℤ
code_of [] = None
code_of (sign ∷ digits) = if nat_eq sign 45 then negative (count_of digits) else None

-- a semaphore, or a dash for none
abbrev pub semaphore_of : List ℕ → Option (Option SemId)
semaphore_of text =
    if bytes_eq text (codes "-") then Some None else option_map (λ n. Some (record { 0 = n })) (byte_of text)

-- the task, the semaphore, the message and the port of a number
abbrev pub task : ℕ → TaskId
task n = record { 0 = n }

abbrev pub sem : ℕ → SemId
sem n = record { 0 = n }

abbrev pub msg : ℕ → MsgId
msg n = record { 0 = n }

abbrev pub port : ℕ → PortId
port n = record { 0 = n }

-- ---- the line of these words after its name, where each of them is there

abbrev pub with_one : {A : Type 0} → Option A → (A → Line) → Option Line
with_one (Some a) line = Some (line a)
with_one _ line = None

abbrev pub with_two : {A B : Type 0} → Option A → Option B → (A → B → Line) → Option Line
with_two (Some a) (Some b) line = Some (line a b)
with_two _ _ line = None

abbrev pub with_three : {A B C : Type 0} → Option A → Option B → Option C → (A → B → C → Line) → Option Line
with_three (Some a) (Some b) (Some c) line = Some (line a b c)
with_three _ _ _ line = None

abbrev pub with_four : {A B C D : Type 0} → Option A → Option B → Option C → Option D → (A → B → C → D → Line) → Option Line
with_four (Some a) (Some b) (Some c) (Some d) line = Some (line a b c d)
with_four _ _ _ _ line = None

-- ---- the lines by their names

-- the line of a name and one word
abbrev pub line_of_one : List ℕ → List ℕ → Option Line
line_of_one name a =
    if bytes_eq name (codes "exit") then with_one (byte_of a) (λ t. Exited (task t))
    else None

-- of a name and two words
abbrev pub line_of_two : List ℕ → List ℕ → List ℕ → Option Line
line_of_two name a b =
    if bytes_eq name (codes "drop") then with_two (byte_of a) (count_of b) (λ t time. Dropped (task t) time)
    else if bytes_eq name (codes "end") then with_two (byte_of a) (count_of b) (λ t job. JobEnd (task t) job)
    else if bytes_eq name (codes "acq") then with_two (byte_of a) (byte_of b) (λ t s. Acq (task t) (sem s))
    else if bytes_eq name (codes "free") then with_two (byte_of a) (byte_of b) (λ t s. Free (task t) (sem s))
    else if bytes_eq name (codes "gone") then with_two (byte_of a) (word_of b) (λ p value. Gone (port p) value)
    else None

-- of a name and three words
abbrev pub line_of_three : List ℕ → List ℕ → List ℕ → List ℕ → Option Line
line_of_three name a b c =
    if bytes_eq name (codes "sig") then
    with_three (byte_of a) (byte_of b) (count_of c) (λ t to job. Sig (task t) (task to) job)
    else if bytes_eq name (codes "put") then
    with_three (byte_of a) (byte_of b) (count_of c) (λ t m number. Put (task t) (msg m) number)
    else if bytes_eq name (codes "get") then
    with_three (byte_of a) (byte_of b) (count_of c) (λ t m number. Get (task t) (msg m) number)
    else if bytes_eq name (codes "err") then
    with_three (byte_of a) (word_of b) (code_of c) (λ t call code. Refused (task t) call code)
    else None

-- of a name and four words
abbrev pub line_of_four : List ℕ → List ℕ → List ℕ → List ℕ → List ℕ → Option Line
line_of_four name a b c d =
    if bytes_eq name (codes "rel") then
    with_four (byte_of a) (count_of b) (count_of c) (word_of d) (λ t job time word. Rel (task t) job time word)
    else if bytes_eq name (codes "out") then
    with_four (byte_of a) (byte_of b) (word_of c) (word_of d) (λ t p word value. Out (task t) (port p) word value)
    else if bytes_eq name (codes "fault") then
    with_four (byte_of a) (byte_of b) (word_of c) (semaphore_of d) (λ t cause pc s. Faulted (task t) cause pc s)
    else None

-- the line of words
abbrev pub line_of_words : List (List ℕ) → Option Line
line_of_words (name ∷ a ∷ []) = line_of_one name a
line_of_words (name ∷ a ∷ b ∷ []) = line_of_two name a b
line_of_words (name ∷ a ∷ b ∷ c ∷ []) = line_of_three name a b c
line_of_words (name ∷ a ∷ b ∷ c ∷ d ∷ []) = line_of_four name a b c d
line_of_words _ = None

-- the words of a text: what stands between spaces
abbrev pub words_of : List ℕ → List (List ℕ)
words_of text = slice_split (λ byte. nat_eq byte 32) text

-- the line that a text spells
abbrev pub line_of : List ℕ → Option Line
line_of text = line_of_words (words_of text)
