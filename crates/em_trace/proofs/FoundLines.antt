-- What a line adds to a schedule, and what is wrong with it, is found; so it is one.
use Rattle.std.proofs.Common.{◌≡◌, ℕ, ◌≤◌, true, false, nat_lt, List, [], ◌∷◌, Option, Some, None, Result, Ok, Err, refl, sym, ap, subst, ◌∙◌, arith, codes, if◌then◌else◌}
use Rattle.std.proofs.lemmas.Bool.Decides.{nat_tests}
use Rattle.std.specs.Fmt.{decimal}
use Rattle.std.specs.List.{AllByRecursion}
use Rattle.em_base.specs.declared.events.Event.{Event}
use Rattle.em_base.specs.declared.events.Event.TheVariants.{Release, Unplug}
use Rattle.em_trace.specs.declared.schedule_faults.Fault.{Fault}
use Rattle.em_trace.specs.declared.schedule_faults.Fault.TheVariants.{Form, CountFalls, NotThere}
use Rattle.em_trace.specs.declared.schedule_lines.Next.{Next}
use Rattle.em_trace.specs.declared.schedule_lines.Next.TheVariants.{Happens, Ends}
use Rattle.em_trace.specs.declared.schedule_lines.Said.{Said}
use Rattle.em_trace.specs.declared.schedule_lines.Said.TheVariants.{Released, Unplugged, Ended}
use Rattle.em_trace.proofs.LineTexts.{words-joined}
use Rattle.em_trace.proofs.LineWords.{IsPlain, below-finds, plain-decimal}
use Rattle.em_trace.proofs.NextLines.{Adds, absent-next}
use Rattle.em_trace.proofs.SaidLines.{said-finds, said-tells}
use Rattle.em_trace.specs.ScheduleFaults.{IsWrong, Says, count_in}
use Rattle.em_trace.specs.Schedules.{IsEvent, IsSteps, end_text, end_words, event_text, event_words, ports}
use Rattle.em_trace.specs.ScheduleWords.{next_by, next_of, next_or_fault, released_next, said_of, there_or, unplugged_next}
use Rattle.em_trace.specs.Words.{words_of}

-- ---- texts

-- no word of an event or of the end has a space
pub plain-event : (count tasks : ℕ) (event : Event) → IsSteps count → IsEvent tasks event → AllByRecursion IsPlain (event_words count event)
plain-event count tasks (Release t time word) h k =
    (plain-decimal count (omega arith), (refl, (plain-decimal t.0 (omega (arith, k.0)), (plain-decimal time (omega (arith, k.2)), (plain-decimal word (omega (arith, k.3)), tt)))))
plain-event count tasks (Unplug p) h k = (plain-decimal count (omega arith), (refl, (plain-decimal p.0 (omega (arith, k)), tt)))

pub plain-end : (last : ℕ) → IsSteps last → AllByRecursion IsPlain (end_words last)
plain-end last h = (plain-decimal last (omega arith), (refl, tt))

-- what the line of an event says
abbrev said_by : ℕ → Event → Said
said_by count (Release t time word) = Released count (Some t.0) time word
said_by count (Unplug p) = Unplugged count (Some p.0)

event-says : (tasks count : ℕ) (event : Event) (line : List ℕ) → event_text (count, event) ≡ line → IsSteps count → IsEvent tasks event
    → Says (said_by count event) line
event-says tasks count (Release t time word) line e h k =
    let p = plain-event count tasks (Release t time word) h k in
    let words =
    ap words_of (sym e) ∙ words-joined (decimal count) (codes "rel" ∷ decimal t.0 ∷ decimal time ∷ decimal word ∷ []) p.0 p.1 in
    (decimal t.0, words, (refl, k.0), h, k.2, k.3)
event-says tasks count (Unplug p) line e h k =
    let q = plain-event count tasks (Unplug p) h k in
    let words = ap words_of (sym e) ∙ words-joined (decimal count) (codes "unplug" ∷ decimal p.0 ∷ []) q.0 q.1 in
    (decimal p.0, words, (refl, omega (arith, k)), h)

end-says : (last : ℕ) (line : List ℕ) → end_text last ≡ line → IsSteps last → Says (Ended last) line
end-says last line e h =
    let p = plain-end last h in
    (ap words_of (sym e) ∙ words-joined (decimal last) (codes "end" ∷ []) p.0 p.1, h)

-- ---- what holds is found

-- what is said with a count that isn't below the one before
late-next : (tasks least : ℕ) (line : List ℕ) (said : Said) → Says said line → least ≤ count_in said
    → next_of tasks least line ≡ there_or (next_by tasks said)
late-next tasks least line said h late =
    let test : nat_lt (count_in said) least ≡ false = grind (arith, nat_tests) in
    ap (next_or_fault tasks least) (said-finds line said h) ∙ ap (λ b. if b then Err CountFalls else there_or (next_by tasks said)) test

event-by : (tasks count : ℕ) (event : Event) → IsEvent tasks event → next_by tasks (said_by count event) ≡ Some (Happens count event)
event-by tasks count (Release t time word) h = ap (λ o. released_next count o time word) (below-finds tasks t.0 h.1)
event-by tasks count (Unplug p) h = ap (unplugged_next count) (below-finds ports p.0 h)

count-by : (count : ℕ) (event : Event) → count_in (said_by count event) ≡ count
count-by count (Release t time word) = refl
count-by count (Unplug p) = refl

-- what a line adds is found
pub adds-next : (tasks least : ℕ) (line : List ℕ) (next : Next) → Adds tasks least line next → next_of tasks least line ≡ Ok next
adds-next tasks least line (Happens count event) h =
    let says = event-says tasks count event line h.0 h.1.1 h.1.2 in
    let late : least ≤ count_in (said_by count event) = subst (λ n. least ≤ n) (sym (count-by count event)) h.1.0 in
    late-next tasks least line (said_by count event) says late ∙ ap there_or (event-by tasks count event h.1.2)
adds-next tasks least line (Ends last) h = late-next tasks least line (Ended last) (end-says last line h.0 h.1.1) h.1.0

-- what is wrong with a line is found
pub wrong-next : (tasks least : ℕ) (line : List ℕ) (fault : Fault) → IsWrong tasks least line fault → next_of tasks least line ≡ Err fault
wrong-next tasks least line Form h = ap (next_or_fault tasks least) (none (said_of line) refl)
  where
    none : (o : Option Said) → said_of line ≡ o → o ≡ None
    none None e = refl
    none (Some said) e = absurd (h said (said-tells line said e))
wrong-next tasks least line CountFalls h =
    let test : nat_lt (count_in h.0) least ≡ true = grind (arith, nat_tests, h.2) in
    ap (next_or_fault tasks least) (said-finds line h.0 h.1) ∙ ap (λ b. if b then Err CountFalls else there_or (next_by tasks h.0)) test
wrong-next tasks least line NotThere h =
    late-next tasks least line h.0 h.1 h.2 ∙ ap there_or (absent-next tasks h.0 h.3)

-- ---- one at most

one_result : (r : Result Next Fault) (a b : Next) → r ≡ Ok a → r ≡ Ok b → a ≡ b
one_result r a b e f = cc

-- a line adds one thing at most
pub one_next : (tasks least : ℕ) (line : List ℕ) (a b : Next) → Adds tasks least line a → Adds tasks least line b → a ≡ b
one_next tasks least line a b h k = one_result (next_of tasks least line) a b (adds-next tasks least line a h) (adds-next tasks least line b k)

one_error : (r : Result Next Fault) (a b : Fault) → r ≡ Err a → r ≡ Err b → a ≡ b
one_error r a b e f = cc

-- a line has one fault at most
pub one_wrong : (tasks least : ℕ) (line : List ℕ) (a b : Fault) → IsWrong tasks least line a → IsWrong tasks least line b → a ≡ b
one_wrong tasks least line a b h k = one_error (next_of tasks least line) a b (wrong-next tasks least line a h) (wrong-next tasks least line b k)

no_result : (r : Result Next Fault) (a : Next) (b : Fault) → r ≡ Ok a → r ≡ Err b → ⊥
no_result r a b e f = absurd (cc)

-- a line that adds something has no fault
pub adds_or_wrong : (tasks least : ℕ) (line : List ℕ) (a : Next) (b : Fault) → Adds tasks least line a → IsWrong tasks least line b → ⊥
adds_or_wrong tasks least line a b h k = no_result (next_of tasks least line) a b (adds-next tasks least line a h) (wrong-next tasks least line b k)
