-- A schedule read line by line: what is known of all lines by those read so far.
use Rattle.std.proofs.Common.{◌≡◌, ℕ, ◌+◌, ◌<◌, List, [], ◌∷◌, ◌++◌, length, get_or, drop, Option, Some, None, Ok, Err, inl, inr, refl, sym, ap, ap₂, subst, ◌∙◌, arith, append_assoc, append-nil, drop_of_length-le}
use Rattle.std.proofs.lemmas.List.{drop_more}
use Rattle.em_base.specs.declared.events.Event.{Event}
use Rattle.em_base.specs.declared.refusals.Refusal.{Refusal}
use Rattle.em_trace.specs.declared.schedule_faults.Fault.{Fault}
use Rattle.em_trace.specs.declared.schedule_faults.Fault.TheVariants.{Form}
use Rattle.em_trace.specs.declared.schedule_lines.Next.{Next}
use Rattle.em_trace.specs.declared.schedule_lines.Next.TheVariants.{Happens, Ends}
use Rattle.em_trace.proofs.NextLines.{Adds, next-adds, next-wrong}
use Rattle.em_trace.proofs.OneSchedule.{AreLines}
use Rattle.em_trace.specs.ScheduleFaults.{AreRefused, AreTooMany, IsWrong, refusal_at}
use Rattle.em_trace.specs.ScheduleWords.{count_after, events_in, last_in, next_after}

-- after n lines, of which the last has this count: what holds of the lines that are left holds of all of them, with these events before
pub record IsOpen (tasks first : ℕ) (lines : List (List ℕ)) (n least : ℕ) (events : List (ℕ × Event)) : Type 0 where
  pub refused : (refusal : Refusal) → AreRefused tasks (first + n) least (drop n lines) refusal → AreRefused tasks first 0 lines refusal
  pub lined : (more : List (ℕ × Event)) (last : ℕ) → AreLines tasks least (drop n lines) more last → AreLines tasks 0 lines (events ++ more) last

-- after n lines, of which the last one is the end: there is to be no line more
pub record IsEnded (tasks first : ℕ) (lines : List (List ℕ)) (n last : ℕ) (events : List (ℕ × Event)) : Type 0 where
  pub refused : (refusal : Refusal) → AreTooMany (first + n) (drop n lines) refusal → AreRefused tasks first 0 lines refusal
  pub lined : drop n lines ≡ [] → AreLines tasks 0 lines events last

-- one of these
abbrev pub IsSoFar : ℕ → ℕ → List (List ℕ) → ℕ → ℕ → Option ℕ → List (ℕ × Event) → Type 0
IsSoFar tasks first lines n least None events = IsOpen tasks first lines n least events
IsSoFar tasks first lines n least (Some last) events = IsEnded tasks first lines n last events

-- ---- the start

pub so_far-start : (tasks first : ℕ) (lines : List (List ℕ)) → IsOpen tasks first lines 0 0 []
so_far-start tasks first lines =
    let here : first + 0 ≡ first = omega arith in
    record {
      refused = λ refusal h. subst (λ k. AreRefused tasks k 0 lines refusal) here h;
      lined = λ more last h. h;
    }

-- ---- a line more

-- the lines that are left begin with the line at the place
left : (lines : List (List ℕ)) (n : ℕ) (line : List ℕ) → n < length lines → line ≡ get_or lines n line → drop n lines ≡ line ∷ drop (n + 1) lines
left lines n line h e = drop_more lines n line h ∙ ap (λ l. l ∷ drop (n + 1) lines) (sym e)

next-number : (first n : ℕ) → first + (n + 1) ≡ first + n + 1
next-number first n = omega arith

-- where the line is that of an event that may come next
so_far-event : (tasks first : ℕ) (lines : List (List ℕ)) (n least : ℕ) (events : List (ℕ × Event)) (line : List ℕ) (count : ℕ) (event : Event)
    → IsOpen tasks first lines n least events → n < length lines → line ≡ get_or lines n line → Adds tasks least line (Happens count event)
    → IsOpen tasks first lines (n + 1) count (events ++ (count, event) ∷ [])
so_far-event tasks first lines n least events line count event so h e a = record {
  refused = λ refusal r.
      so.refused refusal
      (subst (λ ls. AreRefused tasks (first + n) least ls refusal) (sym (left lines n line h e))
      (inr (inl ((count, event), a.0, a.1, subst (λ k. AreRefused tasks k count (drop (n + 1) lines) refusal) (next-number first n) r))));
  lined = λ more last r.
      subst (λ es. AreLines tasks 0 lines es last) (sym (append_assoc events ((count, event) ∷ []) more))
      (so.lined ((count, event) ∷ more) last
      (record { spelled = ap₂ (λ t ts. t ∷ ts) a.0 r.spelled ∙ sym (left lines n line h e); valid = (a.1, r.valid) }));
}

-- where it is the last line
so_far-end : (tasks first : ℕ) (lines : List (List ℕ)) (n least : ℕ) (events : List (ℕ × Event)) (line : List ℕ) (last : ℕ)
    → IsOpen tasks first lines n least events → n < length lines → line ≡ get_or lines n line → Adds tasks least line (Ends last)
    → IsEnded tasks first lines (n + 1) last events
so_far-end tasks first lines n least events line last so h e a = record {
  refused = λ refusal r.
      so.refused refusal
      (subst (λ ls. AreRefused tasks (first + n) least ls refusal) (sym (left lines n line h e))
      (inr (inr (last, a.0, a.1, subst (λ k. AreTooMany k (drop (n + 1) lines) refusal) (next-number first n) r))));
  lined = λ none.
      subst (λ es. AreLines tasks 0 lines es last) (append-nil events)
      (so.lined [] last (record { spelled = ap₂ (λ t ts. t ∷ ts) a.0 (sym none) ∙ sym (left lines n line h e); valid = a.1 }));
}

-- where it is wrong
so_far-wrong : (tasks first : ℕ) (lines : List (List ℕ)) (n least : ℕ) (events : List (ℕ × Event)) (line : List ℕ) (fault : Fault)
    → IsOpen tasks first lines n least events → n < length lines → line ≡ get_or lines n line → IsWrong tasks least line fault
    → AreRefused tasks first 0 lines (refusal_at (first + n) fault)
so_far-wrong tasks first lines n least events line fault so h e w =
    so.refused (refusal_at (first + n) fault)
    (subst (λ ls. AreRefused tasks (first + n) least ls (refusal_at (first + n) fault)) (sym (left lines n line h e)) (inl (fault, w, refl)))

-- where the last line stands before it
so_far-more : (tasks first : ℕ) (lines : List (List ℕ)) (n last : ℕ) (events : List (ℕ × Event)) (line : List ℕ)
    → IsEnded tasks first lines n last events → n < length lines → line ≡ get_or lines n line
    → AreRefused tasks first 0 lines (refusal_at (first + n) Form)
so_far-more tasks first lines n last events line so h e =
    so.refused (refusal_at (first + n) Form)
    (subst (λ ls. AreTooMany (first + n) ls (refusal_at (first + n) Form)) (sym (left lines n line h e)) refl)

-- where it is found to add something
pub so_far-next : (tasks first : ℕ) (lines : List (List ℕ)) (n least : ℕ) (last : Option ℕ) (events : List (ℕ × Event)) (line : List ℕ) (next : Next)
    → IsSoFar tasks first lines n least last events → n < length lines → line ≡ get_or lines n line → next_after tasks least last line ≡ Ok next
    → IsSoFar tasks first lines (n + 1) (count_after next) (last_in next) (events ++ events_in next)
so_far-next tasks first lines n least (Some last) events line next so h e found = absurd (cc)
so_far-next tasks first lines n least None events line (Happens count event) so h e found =
    so_far-event tasks first lines n least events line count event so h e (next-adds tasks least line (Happens count event) found)
so_far-next tasks first lines n least None events line (Ends last) so h e found =
    subst (IsEnded tasks first lines (n + 1) last) (sym (append-nil events))
    (so_far-end tasks first lines n least events line last so h e (next-adds tasks least line (Ends last) found))

-- where a fault is found
pub so_far-fault : (tasks first : ℕ) (lines : List (List ℕ)) (n least : ℕ) (last : Option ℕ) (events : List (ℕ × Event)) (line : List ℕ) (fault : Fault)
    → IsSoFar tasks first lines n least last events → n < length lines → line ≡ get_or lines n line → next_after tasks least last line ≡ Err fault
    → AreRefused tasks first 0 lines (refusal_at (first + n) fault)
so_far-fault tasks first lines n least (Some last) events line fault so h e found =
    let same : Form ≡ fault = cc in
    subst (λ f. AreRefused tasks first 0 lines (refusal_at (first + n) f)) same (so_far-more tasks first lines n last events line so h e)
so_far-fault tasks first lines n least None events line fault so h e found =
    so_far-wrong tasks first lines n least events line fault so h e (next-wrong tasks least line fault found)

-- ---- the end of the text

none-left : (lines : List (List ℕ)) (n : ℕ) → n ≡ length lines → drop n lines ≡ []
none-left lines n e = drop_of_length-le lines (omega arith)

-- the last line is missing
pub so_far-missing : (tasks first : ℕ) (lines : List (List ℕ)) (n least : ℕ) (events : List (ℕ × Event))
    → IsOpen tasks first lines n least events → n ≡ length lines → AreRefused tasks first 0 lines (refusal_at (first + n) Form)
so_far-missing tasks first lines n least events so e =
    so.refused (refusal_at (first + n) Form)
    (subst (λ ls. AreRefused tasks (first + n) least ls (refusal_at (first + n) Form)) (sym (none-left lines n e)) refl)

-- or the schedule is whole
pub so_far-whole : (tasks first : ℕ) (lines : List (List ℕ)) (n last : ℕ) (events : List (ℕ × Event))
    → IsEnded tasks first lines n last events → n ≡ length lines → AreLines tasks 0 lines events last
so_far-whole tasks first lines n last events so e = so.lined (none-left lines n e)
