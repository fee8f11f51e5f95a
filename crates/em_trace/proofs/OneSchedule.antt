-- Lines are those of one schedule, or have one refusal, and never both.
use Rattle.std.proofs.Common.{◌≡◌, ℕ, ◌+◌, List, [], ◌∷◌, Result, Ok, Err, IfOk, IfErr, MatchResult, inl, inr, ◌⊎◌, refl, sym, ap, ap₂, subst, ◌∙◌}
use Rattle.em_base.specs.declared.events.Event.{Event}
use Rattle.em_base.specs.declared.events.Schedule.{Schedule}
use Rattle.em_base.specs.declared.refusals.Fail.{Fail}
use Rattle.em_base.specs.declared.refusals.Fail.TheVariants.{Refused, NoMemory}
use Rattle.em_base.specs.declared.refusals.Refusal.{Refusal}
use Rattle.em_trace.specs.declared.schedule_faults.Fault.{Fault}
use Rattle.em_trace.specs.declared.schedule_faults.Fault.TheVariants.{Form}
use Rattle.em_trace.specs.declared.schedule_lines.Next.{Next}
use Rattle.em_trace.specs.declared.schedule_lines.Next.TheVariants.{Happens, Ends}
use Rattle.em_trace.proofs.FoundLines.{adds_or_wrong, one_next, one_wrong}
use Rattle.em_trace.proofs.NextLines.{Adds, next-adds, next-wrong}
use Rattle.em_trace.specs.ScheduleFaults.{AreRefused, AreTooMany, IsScheduleFail, IsScheduleRefused, refusal_at}
use Rattle.em_trace.specs.Schedules.{AreEvents, IsLast, IsScheduleOf, end_text, event_text, lines_of}
use Rattle.em_trace.specs.ScheduleWords.{next_of}

-- the lines are those of these events and this end, after a line with this count
pub record AreLines (tasks least : ℕ) (lines : List (List ℕ)) (events : List (ℕ × Event)) (last : ℕ) : Type 0 where
  pub spelled : lines_of events last ≡ lines
  pub valid : AreEvents tasks least events last

-- ---- schedules

same-pair : (e f : ℕ × Event) → Happens e.0 e.1 ≡ Happens f.0 f.1 → e ≡ f
same-pair e f h =
    let counts : e.0 ≡ f.0 = cc in
    let events : e.1 ≡ f.1 = cc in
    ap₂ (λ n x. (n, x)) counts events

ends-or-happens : {P : Type 0} (last : ℕ) (e : ℕ × Event) → Ends last ≡ Happens e.0 e.1 → P
ends-or-happens last e h = absurd (cc)

-- the texts of lines and the events that may come next are those of one list
one_lines : (tasks least : ℕ) (es fs : List (ℕ × Event)) (m n : ℕ) → AreEvents tasks least es m → AreEvents tasks least fs n
    → lines_of es m ≡ lines_of fs n → (es ≡ fs) × (m ≡ n)
one_lines tasks least [] [] m n h k e =
    let text : end_text n ≡ end_text m = cc in
    let same : Ends m ≡ Ends n = one_next tasks least (end_text m) (Ends m) (Ends n) (refl, h) (text, k) in
    (refl, cc)
one_lines tasks least [] (f ∷ fs) m n h k e =
    let text : event_text f ≡ end_text m = cc in
    ends-or-happens m f (one_next tasks least (end_text m) (Ends m) (Happens f.0 f.1) (refl, h) (text, k.0))
one_lines tasks least (f ∷ fs) [] m n h k e =
    let text : event_text f ≡ end_text n = cc in
    ends-or-happens n f (one_next tasks least (end_text n) (Ends n) (Happens f.0 f.1) (refl, k) (text, h.0))
one_lines tasks least (e ∷ es) (f ∷ fs) m n h k same =
    let text : event_text f ≡ event_text e = cc in
    let rest : lines_of es m ≡ lines_of fs n = cc in
    let first : e ≡ f = same-pair e f (one_next tasks least (event_text e) (Happens e.0 e.1) (Happens f.0 f.1) (refl, h.0) (text, k.0)) in
    let more = one_lines tasks e.0 es fs m n h.1 (subst (λ x. AreEvents tasks x.0 fs n) (sym first) k.1) rest in
    (ap₂ (λ x xs. x ∷ xs) first more.0, more.1)

-- the schedule of lines is one
pub one_list : (tasks : ℕ) (lines : List (List ℕ)) (one other : Schedule) → IsScheduleOf tasks lines one → IsScheduleOf tasks lines other → one ≡ other
one_list tasks lines one other a b =
    let same = one_lines tasks 0 one.events other.events one.last other.last a.valid b.valid (a.spelled ∙ sym b.spelled) in
    ap₂ (λ e l. let s : Schedule = record { events = e; last = l } in s) same.0 same.1

-- ---- refusals

one_too_many : (number : ℕ) (lines : List (List ℕ)) (a b : Refusal) → AreTooMany number lines a → AreTooMany number lines b → a ≡ b
one_too_many number [] a b h k = absurd h
one_too_many number (line ∷ lines) a b h k = h ∙ sym k

-- the refusal of lines is one
one_refused : (tasks number least : ℕ) (lines : List (List ℕ)) (a b : Refusal) → AreRefused tasks number least lines a → AreRefused tasks number least lines b → a ≡ b
one_refused tasks number least [] a b h k = h ∙ sym k
one_refused tasks number least (line ∷ lines) a b (inl h) (inl k) =
    h.2 ∙ ap (refusal_at number) (one_wrong tasks least line h.0 k.0 h.1 k.1) ∙ sym k.2
one_refused tasks number least (line ∷ lines) a b (inl h) (inr (inl k)) =
    absurd (adds_or_wrong tasks least line (Happens k.0.0 k.0.1) h.0 (k.1, k.2) h.1)
one_refused tasks number least (line ∷ lines) a b (inl h) (inr (inr k)) =
    absurd (adds_or_wrong tasks least line (Ends k.0) h.0 (k.1, k.2) h.1)
one_refused tasks number least (line ∷ lines) a b (inr (inl h)) (inl k) =
    absurd (adds_or_wrong tasks least line (Happens h.0.0 h.0.1) k.0 (h.1, h.2) k.1)
one_refused tasks number least (line ∷ lines) a b (inr (inl h)) (inr (inl k)) =
    let first : h.0 ≡ k.0 = same-pair h.0 k.0 (one_next tasks least line (Happens h.0.0 h.0.1) (Happens k.0.0 k.0.1) (h.1, h.2) (k.1, k.2)) in
    one_refused tasks (number + 1) h.0.0 lines a b h.3 (subst (λ x. AreRefused tasks (number + 1) x.0 lines b) (sym first) k.3)
one_refused tasks number least (line ∷ lines) a b (inr (inl h)) (inr (inr k)) =
    ends-or-happens k.0 h.0 (one_next tasks least line (Ends k.0) (Happens h.0.0 h.0.1) (k.1, k.2) (h.1, h.2))
one_refused tasks number least (line ∷ lines) a b (inr (inr h)) (inl k) =
    absurd (adds_or_wrong tasks least line (Ends h.0) k.0 (h.1, h.2) k.1)
one_refused tasks number least (line ∷ lines) a b (inr (inr h)) (inr (inl k)) =
    ends-or-happens h.0 k.0 (one_next tasks least line (Ends h.0) (Happens k.0.0 k.0.1) (h.1, h.2) (k.1, k.2))
one_refused tasks number least (line ∷ lines) a b (inr (inr h)) (inr (inr k)) = one_too_many (number + 1) lines a b h.3 k.3

-- the refusal of a schedule's lines is one
pub one_schedule_refusal : (first tasks : ℕ) (lines : List (List ℕ)) (one other : Refusal)
    → IsScheduleRefused first tasks lines one → IsScheduleRefused first tasks lines other → one ≡ other
one_schedule_refusal first tasks lines one other a b = one_refused tasks first 0 lines one other a b

-- ---- never both

end_or_refused : (tasks number least : ℕ) (lines : List (List ℕ)) (last : ℕ) (refusal : Refusal) → end_text last ∷ [] ≡ lines → IsLast least last
    → AreRefused tasks number least lines refusal → ⊥
end_or_refused tasks number least [] last refusal e v h = absurd (cc)
end_or_refused tasks number least (line ∷ next ∷ lines) last refusal e v h = absurd (cc)
end_or_refused tasks number least (line ∷ []) last refusal e v (inl h) =
    let text : end_text last ≡ line = cc in
    adds_or_wrong tasks least line (Ends last) h.0 (text, v) h.1
end_or_refused tasks number least (line ∷ []) last refusal e v (inr (inl h)) =
    let text : end_text last ≡ line = cc in
    ends-or-happens last h.0 (one_next tasks least line (Ends last) (Happens h.0.0 h.0.1) (text, v) (h.1, h.2))
end_or_refused tasks number least (line ∷ []) last refusal e v (inr (inr h)) = h.3

lines_or_refused : (tasks number least : ℕ) (lines : List (List ℕ)) (events : List (ℕ × Event)) (last : ℕ) (refusal : Refusal) → lines_of events last ≡ lines
    → AreEvents tasks least events last → AreRefused tasks number least lines refusal → ⊥
lines_or_refused tasks number least lines [] last refusal e v h = end_or_refused tasks number least lines last refusal e v h
lines_or_refused tasks number least [] (event ∷ events) last refusal e v h = absurd (cc)
lines_or_refused tasks number least (line ∷ lines) (event ∷ events) last refusal e v (inl h) =
    let text : event_text event ≡ line = cc in
    adds_or_wrong tasks least line (Happens event.0 event.1) h.0 (text, v.0) h.1
lines_or_refused tasks number least (line ∷ lines) (event ∷ events) last refusal e v (inr (inl h)) =
    let text : event_text event ≡ line = cc in
    let rest : lines_of events last ≡ lines = cc in
    let first : h.0 ≡ event =
    same-pair h.0 event (one_next tasks least line (Happens h.0.0 h.0.1) (Happens event.0 event.1) (h.1, h.2) (text, v.0)) in
    lines_or_refused tasks (number + 1) event.0 lines events last refusal rest v.1
    (subst (λ x. AreRefused tasks (number + 1) x.0 lines refusal) first h.3)
lines_or_refused tasks number least (line ∷ lines) (event ∷ events) last refusal e v (inr (inr h)) =
    let text : event_text event ≡ line = cc in
    ends-or-happens h.0 event (one_next tasks least line (Ends h.0) (Happens event.0 event.1) (h.1, h.2) (text, v.0))

-- the lines of a schedule have no refusal
pub schedule_or_refused : (first tasks : ℕ) (lines : List (List ℕ)) (s : Schedule) (refusal : Refusal)
    → IsScheduleOf tasks lines s → IsScheduleRefused first tasks lines refusal → ⊥
schedule_or_refused first tasks lines s refusal a b = lines_or_refused tasks first 0 lines s.events s.last refusal a.spelled a.valid b

-- ---- at least one

-- what is answered at least
abbrev Answer : ℕ → ℕ → ℕ → List (List ℕ) → Type 0
Answer tasks number least lines =
    ((events : List (ℕ × Event)) × (last : ℕ) × AreLines tasks least lines events last) ⊎ ((refusal : Refusal) × AreRefused tasks number least lines refusal)

answer-end : (tasks number least : ℕ) (line : List ℕ) (lines : List (List ℕ)) (last : ℕ) → Adds tasks least line (Ends last)
    → Answer tasks number least (line ∷ lines)
answer-end tasks number least line [] last a =
    inl ([], last, record { spelled = ap (λ t. t ∷ []) a.0; valid = a.1 })
answer-end tasks number least line (next ∷ more) last a =
    inr (refusal_at (number + 1) Form, inr (inr (last, a.0, a.1, refl)))

answer-event : (tasks number least : ℕ) (line : List ℕ) (lines : List (List ℕ)) (event : ℕ × Event) → Adds tasks least line (Happens event.0 event.1)
    → Answer tasks (number + 1) event.0 lines → Answer tasks number least (line ∷ lines)
answer-event tasks number least line lines event a (inl found) =
    inl (event ∷ found.0, found.1, record { spelled = ap₂ (λ t ts. t ∷ ts) a.0 found.2.spelled; valid = (a.1, found.2.valid) })
answer-event tasks number least line lines event a (inr refused) = inr (refused.0, inr (inl (event, a.0, a.1, refused.1)))

answer-next : (tasks number least : ℕ) (line : List ℕ) (lines : List (List ℕ)) → ((count : ℕ) → Answer tasks (number + 1) count lines)
    → (r : Result Next Fault) → next_of tasks least line ≡ r → Answer tasks number least (line ∷ lines)
answer-next tasks number least line lines more (Err fault) e = inr (refusal_at number fault, inl (fault, next-wrong tasks least line fault e, refl))
answer-next tasks number least line lines more (Ok (Ends last)) e =
    answer-end tasks number least line lines last (next-adds tasks least line (Ends last) e)
answer-next tasks number least line lines more (Ok (Happens count event)) e =
    answer-event tasks number least line lines (count, event) (next-adds tasks least line (Happens count event) e) (more count)

answer : (tasks number least : ℕ) (lines : List (List ℕ)) → Answer tasks number least lines
answer tasks number least [] = inr (refusal_at number Form, refl)
answer tasks number least (line ∷ lines) =
    answer-next tasks number least line lines (λ count. answer tasks (number + 1) count lines) (next_of tasks least line) refl

-- lines are those of a schedule, or have a refusal
pub some_answer : (first tasks : ℕ) (lines : List (List ℕ))
    → ((s : Schedule) × IsScheduleOf tasks lines s) ⊎ ((refusal : Refusal) × IsScheduleRefused first tasks lines refusal)
some_answer first tasks lines = elim (answer tasks first 0 lines) [
  | inl found ↦ inl (record { events = found.0; last = found.1 }, record { spelled = found.2.spelled; valid = found.2.valid })
  | inr refused ↦ inr refused
]

-- ---- answers

-- a schedule is answered with itself
pub answers_schedule : (first tasks : ℕ) (lines : List (List ℕ)) (s : Schedule) (result : Result Schedule Fail) → IfOk result (IsScheduleOf tasks lines)
    → IfErr result (IsScheduleFail first tasks lines) → IsScheduleOf tasks lines s → MatchResult result (λ found. found ≡ s) (λ fail. fail ≡ NoMemory)
answers_schedule first tasks lines s (Ok found) ok err a = one_list tasks lines found s ok a
answers_schedule first tasks lines s (Err NoMemory) ok err a = refl
answers_schedule first tasks lines s (Err (Refused refusal)) ok err a = absurd (schedule_or_refused first tasks lines s refusal a err)

-- lines that are refused are answered with their refusal
pub answers_refusal : (first tasks : ℕ) (lines : List (List ℕ)) (refusal : Refusal) (result : Result Schedule Fail) → IfOk result (IsScheduleOf tasks lines)
    → IfErr result (IsScheduleFail first tasks lines) → IsScheduleRefused first tasks lines refusal
    → MatchResult result (λ _. ⊥) (λ fail. (fail ≡ Refused refusal) ⊎ (fail ≡ NoMemory))
answers_refusal first tasks lines refusal (Ok found) ok err r = schedule_or_refused first tasks lines found refusal ok r
answers_refusal first tasks lines refusal (Err NoMemory) ok err r = inr refl
answers_refusal first tasks lines refusal (Err (Refused other)) ok err r = inl (ap (λ x. Refused x) (one_schedule_refusal first tasks lines other refusal err r))
