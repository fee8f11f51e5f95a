-- What a line of a schedule says, and what comes next by it, as functions of the line: this project's own.
use Rattle.std.specs.Prelude.{ℕ, ◌+◌, Bool, nat_lt, List, [], ◌∷◌, Option, Some, None, Result, Ok, Err, if◌then◌else◌, codes}
use Rattle.std.specs.Str.{bytes_eq}
use Rattle.em_base.specs.declared.events.Event.{Event}
use Rattle.em_base.specs.declared.events.Event.TheVariants.{Release, Unplug}
use Rattle.em_trace.specs.declared.schedule_faults.Fault.{Fault}
use Rattle.em_trace.specs.declared.schedule_faults.Fault.TheVariants.{Form, CountFalls, NotThere}
use Rattle.em_trace.specs.declared.schedule_lines.Next.{Next}
use Rattle.em_trace.specs.declared.schedule_lines.Next.TheVariants.{Happens, Ends}
use Rattle.em_trace.specs.declared.schedule_lines.Said.{Said}
use Rattle.em_trace.specs.declared.schedule_lines.Said.TheVariants.{Released, Unplugged, Ended}
use Rattle.em_trace.specs.ScheduleFaults.{count_in, is_numeral}
use Rattle.em_trace.specs.Schedules.{most_steps, ports}
use Rattle.em_trace.specs.Words.{below, byte_of, count_of, port, task, word_of, words_of}

-- ---- the words

-- the number of steps that a word spells
abbrev pub steps_of : List ℕ → Option ℕ
steps_of text = below (most_steps + 1) (count_of text)

-- the number of a task or a port, where it has 8 bits; else, where it is a number, that it has none of these
abbrev pub large_of : Bool → Option (Option ℕ)
large_of numeral = if numeral then Some None else None

abbrev pub number_or : Option ℕ → Bool → Option (Option ℕ)
number_or (Some n) numeral = Some (Some n)
number_or None numeral = large_of numeral

unfoldable pub number_of : List ℕ → Option (Option ℕ)
number_of text = number_or (byte_of text) (is_numeral text)

-- ---- what a line says

-- what is said, where each of the words is there
abbrev pub ended : Option ℕ → Option Said
ended (Some count) = Some (Ended count)
ended _ = None

abbrev pub unplugged : Option ℕ → Option (Option ℕ) → Option Said
unplugged (Some count) (Some port) = Some (Unplugged count port)
unplugged _ _ = None

abbrev pub released : Option ℕ → Option (Option ℕ) → Option ℕ → Option ℕ → Option Said
released (Some count) (Some task) (Some time) (Some word) = Some (Released count task time word)
released _ _ _ _ = None

-- what COUNT `end` says, COUNT `unplug` P, and COUNT `rel` T TIME WORD
abbrev pub said_of_two : List ℕ → List ℕ → Option Said
said_of_two count verb = if bytes_eq verb (codes "end") then ended (steps_of count) else None

abbrev pub said_of_three : List ℕ → List ℕ → List ℕ → Option Said
said_of_three count verb port = if bytes_eq verb (codes "unplug") then unplugged (steps_of count) (number_of port) else None

abbrev pub said_of_five : List ℕ → List ℕ → List ℕ → List ℕ → List ℕ → Option Said
said_of_five count verb task time word =
    if bytes_eq verb (codes "rel") then released (steps_of count) (number_of task) (word_of time) (word_of word) else None

-- what words say; other words say nothing
abbrev pub said_of_words : List (List ℕ) → Option Said
said_of_words (count ∷ verb ∷ []) = said_of_two count verb
said_of_words (count ∷ verb ∷ port ∷ []) = said_of_three count verb port
said_of_words (count ∷ verb ∷ task ∷ time ∷ word ∷ []) = said_of_five count verb task time word
said_of_words _ = None

-- what a line says
abbrev pub said_of : List ℕ → Option Said
said_of line = said_of_words (words_of line)

-- ---- what comes next

-- the release and the unplugged port, where the number is there
abbrev pub released_next : ℕ → Option ℕ → ℕ → ℕ → Option Next
released_next count None time word = None
released_next count (Some t) time word = Some (Happens count (Release (task t) time word))

abbrev pub unplugged_next : ℕ → Option ℕ → Option Next
unplugged_next count None = None
unplugged_next count (Some p) = Some (Happens count (Unplug (port p)))

-- what comes next by what is said, where there are so many tasks
abbrev pub next_by : ℕ → Said → Option Next
next_by tasks (Released count t time word) = released_next count (below tasks t) time word
next_by tasks (Unplugged count p) = unplugged_next count (below ports p)
next_by tasks (Ended count) = Some (Ends count)

abbrev pub there_or : Option Next → Result Next Fault
there_or None = Err NotThere
there_or (Some next) = Ok next

-- what comes next, or the fault, after a line with this count
abbrev pub next_or_fault : ℕ → ℕ → Option Said → Result Next Fault
next_or_fault tasks least None = Err Form
next_or_fault tasks least (Some said) = if nat_lt (count_in said) least then Err CountFalls else there_or (next_by tasks said)

abbrev pub next_of : ℕ → ℕ → List ℕ → Result Next Fault
next_of tasks least line = next_or_fault tasks least (said_of line)

-- ---- line after line

-- the same where the last line may stand before it: then there is to be no line more
abbrev pub next_after : ℕ → ℕ → Option ℕ → List ℕ → Result Next Fault
next_after tasks least None line = next_of tasks least line
next_after tasks least (Some last) line = Err Form

-- the event that is added, the count after it, and the number of steps in all, where the end is added
abbrev pub events_in : Next → List (ℕ × Event)
events_in (Happens count event) = (count, event) ∷ []
events_in (Ends last) = []

abbrev pub count_after : Next → ℕ
count_after (Happens count event) = count
count_after (Ends last) = last

abbrev pub last_in : Next → Option ℕ
last_in (Happens count event) = None
last_in (Ends last) = Some last
