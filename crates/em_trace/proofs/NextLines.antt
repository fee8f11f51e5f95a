-- What a line adds to a schedule, or what is wrong with it, is what the function of the line finds.
use Rattle.std.proofs.Common.{◌≡◌, ℕ, ◌<◌, ◌≤◌, Bool, true, false, nat_lt, List, [], ◌∷◌, Option, Some, None, Ok, Err, refl, sym, ap, subst, ◌∙◌, arith, codes, if◌then◌else◌}
use Rattle.std.proofs.lemmas.Bool.Decides.{nat_tests}
use Rattle.std.proofs.lemmas.List.Splits.{join_with_byte-slice_split}
use Rattle.std.specs.Fmt.{decimal}
use Rattle.std.specs.List.{join_with_byte}
use Rattle.em_base.specs.declared.events.Event.{Event}
use Rattle.em_base.specs.declared.events.Event.TheVariants.{Release, Unplug}
use Rattle.em_trace.specs.declared.schedule_faults.Fault.{Fault}
use Rattle.em_trace.specs.declared.schedule_faults.Fault.TheVariants.{Form, CountFalls, NotThere}
use Rattle.em_trace.specs.declared.schedule_lines.Next.{Next}
use Rattle.em_trace.specs.declared.schedule_lines.Next.TheVariants.{Happens, Ends}
use Rattle.em_trace.specs.declared.schedule_lines.Said.{Said}
use Rattle.em_trace.specs.declared.schedule_lines.Said.TheVariants.{Released, Unplugged, Ended}
use Rattle.em_trace.proofs.LineWords.{below-finds}
use Rattle.em_trace.proofs.SaidLines.{said-finds, said-tells}
use Rattle.em_trace.specs.ScheduleFaults.{IsThere, IsWrong, Says, count_in}
use Rattle.em_trace.specs.Schedules.{IsLast, IsNext, end_text, end_words, event_text, event_words, ports}
use Rattle.em_trace.specs.ScheduleWords.{next_by, next_of, next_or_fault, released_next, said_of, there_or, unplugged_next}
use Rattle.em_trace.specs.Words.{port, task, words_of}

-- the line is that of what it adds, which may come next
abbrev pub Adds : ℕ → ℕ → List ℕ → Next → Type 0
Adds tasks least line (Happens count event) = (event_text (count, event) ≡ line) × IsNext tasks least (count, event)
Adds tasks least line (Ends last) = (end_text last ≡ line) × IsLast least last

-- ---- from what is said to what comes next

-- words that are those of a line are its text
spelled : (line : List ℕ) (words : List (List ℕ)) → words_of line ≡ words → join_with_byte 32 words ≡ line
spelled line words e = ap (join_with_byte 32) (sym e) ∙ join_with_byte-slice_split 32 line

-- what is said and there is added
said-adds : (tasks least : ℕ) (line : List ℕ) (said : Said) (next : Next) → Says said line → least ≤ count_in said → next_by tasks said ≡ Some next
    → Adds tasks least line next
said-adds tasks least line (Ended count) next h late e =
    let same : Ends count ≡ next = cc in
    subst (Adds tasks least line) same (spelled line (end_words count) h.0, (late, h.1))
said-adds tasks least line (Unplugged count None) next h late e = absurd (cc)
said-adds tasks least line (Unplugged count (Some p)) next h late e = by_size (nat_lt p ports) refl e
  where
    by_size : (b : Bool) → nat_lt p ports ≡ b → unplugged_next count (if b then Some p else None) ≡ Some next → Adds tasks least line next
    by_size false t k = absurd (cc)
    by_size true t k =
        let small : p < ports = grind (arith, nat_tests) in
        let same : Happens count (Unplug (port p)) ≡ next = cc in
        let text = spelled line (event_words count (Unplug (port p))) (h.1 ∙ ap (λ n. decimal count ∷ codes "unplug" ∷ n ∷ []) (sym h.2.0)) in
        subst (Adds tasks least line) same (text, (late, h.3, small))
said-adds tasks least line (Released count None time word) next h late e = absurd (cc)
said-adds tasks least line (Released count (Some t) time word) next h late e = by_size (nat_lt t tasks) refl e
  where
    by_size : (b : Bool) → nat_lt t tasks ≡ b → released_next count (if b then Some t else None) time word ≡ Some next → Adds tasks least line next
    by_size false n k = absurd (cc)
    by_size true n k =
        let small : t < tasks = grind (arith, nat_tests) in
        let event : Event = Release (task t) time word in
        let same : Happens count event ≡ next = cc in
        let text =
        spelled line (event_words count event) (h.1 ∙ ap (λ n. decimal count ∷ codes "rel" ∷ n ∷ decimal time ∷ decimal word ∷ []) (sym h.2.0)) in
        subst (Adds tasks least line) same (text, (late, h.3, (h.2.1, small, h.4, h.5)))

-- where nothing comes next, what is said isn't there
said-absent : (tasks : ℕ) (said : Said) → next_by tasks said ≡ None → IsThere tasks said → ⊥
said-absent tasks (Ended count) e h = absurd (cc)
said-absent tasks (Unplugged count None) e h = h
said-absent tasks (Unplugged count (Some p)) e h =
    let found : next_by tasks (Unplugged count (Some p)) ≡ Some (Happens count (Unplug (port p))) = ap (unplugged_next count) (below-finds ports p h) in
    absurd (cc)
said-absent tasks (Released count None time word) e h = h
said-absent tasks (Released count (Some t) time word) e h =
    let found : next_by tasks (Released count (Some t) time word) ≡ Some (Happens count (Release (task t) time word)) =
    ap (λ o. released_next count o time word) (below-finds tasks t h) in
    absurd (cc)

-- and where it isn't there, nothing does
pub absent-next : (tasks : ℕ) (said : Said) → (IsThere tasks said → ⊥) → next_by tasks said ≡ None
absent-next tasks (Ended count) h = absurd (h tt)
absent-next tasks (Unplugged count None) h = refl
absent-next tasks (Unplugged count (Some p)) h =
    let large : nat_lt p ports ≡ false = by_size (nat_lt p ports) refl in
    ap (λ b. unplugged_next count (if b then Some p else None)) large
  where
    by_size : (b : Bool) → nat_lt p ports ≡ b → nat_lt p ports ≡ false
    by_size false e = e
    by_size true e =
        let small : p < ports = grind (arith, nat_tests) in
        absurd (h small)
absent-next tasks (Released count None time word) h = refl
absent-next tasks (Released count (Some t) time word) h =
    let large : nat_lt t tasks ≡ false = by_size (nat_lt t tasks) refl in
    ap (λ b. released_next count (if b then Some t else None) time word) large
  where
    by_size : (b : Bool) → nat_lt t tasks ≡ b → nat_lt t tasks ≡ false
    by_size false e = e
    by_size true e =
        let small : t < tasks = grind (arith, nat_tests) in
        absurd (h small)

-- ---- what is found holds

-- what is found is what the line adds
pub next-adds : (tasks least : ℕ) (line : List ℕ) (next : Next) → next_of tasks least line ≡ Ok next → Adds tasks least line next
next-adds tasks least line next e = by_said (said_of line) refl e
  where
    by_next : (said : Said) → said_of line ≡ Some said → least ≤ count_in said → (o : Option Next) → next_by tasks said ≡ o → there_or o ≡ Ok next
        → Adds tasks least line next
    by_next said s late None n k = absurd (cc)
    by_next said s late (Some other) n k =
        let same : other ≡ next = cc in
        said-adds tasks least line said next (said-tells line said s) late (n ∙ ap Some same)

    by_count : (said : Said) → said_of line ≡ Some said → (b : Bool) → nat_lt (count_in said) least ≡ b
        → (if b then Err CountFalls else there_or (next_by tasks said)) ≡ Ok next → Adds tasks least line next
    by_count said s true t k = absurd (cc)
    by_count said s false t k =
        let late : least ≤ count_in said = grind (arith, nat_tests) in
        by_next said s late (next_by tasks said) refl k

    by_said : (o : Option Said) → said_of line ≡ o → next_or_fault tasks least o ≡ Ok next → Adds tasks least line next
    by_said None s k = absurd (cc)
    by_said (Some said) s k = by_count said s (nat_lt (count_in said) least) refl k

-- a fault that is found is what is wrong with the line
pub next-wrong : (tasks least : ℕ) (line : List ℕ) (fault : Fault) → next_of tasks least line ≡ Err fault → IsWrong tasks least line fault
next-wrong tasks least line fault e = by_said (said_of line) refl e
  where
    by_next : (said : Said) → said_of line ≡ Some said → least ≤ count_in said → (o : Option Next) → next_by tasks said ≡ o → there_or o ≡ Err fault
        → IsWrong tasks least line fault
    by_next said s late (Some other) n k = absurd (cc)
    by_next said s late None n k =
        let same : NotThere ≡ fault = cc in
        subst (IsWrong tasks least line) same (said, said-tells line said s, late, said-absent tasks said n)

    by_count : (said : Said) → said_of line ≡ Some said → (b : Bool) → nat_lt (count_in said) least ≡ b
        → (if b then Err CountFalls else there_or (next_by tasks said)) ≡ Err fault → IsWrong tasks least line fault
    by_count said s true t k =
        let early : count_in said < least = grind (arith, nat_tests) in
        let same : CountFalls ≡ fault = cc in
        subst (IsWrong tasks least line) same (said, said-tells line said s, early)
    by_count said s false t k =
        let late : least ≤ count_in said = grind (arith, nat_tests) in
        by_next said s late (next_by tasks said) refl k

    no_said : said_of line ≡ None → (said : Said) → Says said line → ⊥
    no_said s said h =
        let found = said-finds line said h in
        absurd (cc)

    by_said : (o : Option Said) → said_of line ≡ o → next_or_fault tasks least o ≡ Err fault → IsWrong tasks least line fault
    by_said None s k =
        let same : Form ≡ fault = cc in
        subst (IsWrong tasks least line) same (no_said s)
    by_said (Some said) s k = by_count said s (nat_lt (count_in said) least) refl k
