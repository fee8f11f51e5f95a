-- What a step of the counted machine leaves of a read under way, and how one begins.
use Rattle.std.proofs.Common.{◌≡◌, ◌≢◌, ◌∙◌, ◌⊎◌, inl, inr, ℕ, ◌+◌, nat_lt, nat_le, if◌then◌else◌, Bool, true, false, Some, is_some, sym, ap, subst, refl}
use Rattle.std.specs.Prelude.{IsSome}
use Rattle.std.proofs.lemmas.Bool.{cases_eq}
use Rattle.em_base.specs.declared.apps.App.{App}
use Rattle.em_base.specs.declared.events.Event.{Event}
use Rattle.em_base.specs.declared.ids.MsgId.{MsgId}
use Rattle.em_base.specs.declared.ids.TaskId.{TaskId}
use Rattle.em_base.specs.declared.jobs.Status.TheVariants.{Awake}
use Rattle.em_admit.specs.Depth.{depth}
use Rattle.em_gate.specs.Calls.{words_of}
use Rattle.em_gate.specs.Outcome.{outcome}
use Rattle.em_gate.specs.State.{Core, Counted, Plain, Reads, task_at}
use Rattle.em_kernel.specs.declared.did.End.{End}
use Rattle.em_kernel.specs.declared.did.StepKind.{StepKind}
use Rattle.em_kernel.specs.declared.did.StepKind.TheVariants.{Copy as CopyKind}
use Rattle.em_kernel.specs.declared.did.What.{What}
use Rattle.em_kernel.specs.declared.did.What.TheVariants.{Delivered, Stepped, Idled, Ended}
use Rattle.em_kernel.specs.Moves.{PutsWord, EndsRead, Lapses, begun_at, copy_at, move_by, move_of}
use Rattle.em_kernel.specs.Step.{kind_of}
use Rattle.em_sched.specs.Agreement.{IsCopy, IsCopying}
use Rattle.em_sched.specs.Image.{is_copying}
use Rattle.em_sched.specs.Turns.{acted}
use Rattle.em_sched.proofs.Flat.{flat, settle_keeps, settle_status}
use Rattle.em_sched.proofs.Keeping.{keeps_event, keeps_step}
use Rattle.em_sched.proofs.Levels.{Fits, beside, flat_after}
use Rattle.em_sched.proofs.Moves.{unless}
use Rattle.em_sched.proofs.Orderly.{IsOrderly, IsSimple}

-- ---- a step beside a read under way

-- the settled core of a task
abbrev pub core_in : Counted → TaskId → Core
core_in c t = (task_at (flat c).tasks t.0).core

-- a read under way goes on: its task takes steps of a copy alone
read_kind : (app : App) (c : Counted) (t : TaskId) (m : MsgId) (at noted i : ℕ) → copy_at c.copies t.0 ≡ Some (Reads m at noted i)
    → kind_of (move_of app c t.0) ≡ CopyKind
read_kind app c t m at noted i e =
    ap (λ copy. kind_of (move_by app.table c.begun (outcome app.table app.image.words t.0 c.plain) copy)) e
    ∙ by_tests (nat_le (noted + depth app.table m.0) (begun_at c.begun m.0)) (nat_lt (i + 1) (words_of app.table m.0))
  where
    by_tests : (lapsed more : Bool)
        → kind_of (if lapsed then Lapses m noted else if more then PutsWord m at noted i else EndsRead m at noted i) ≡ CopyKind
    by_tests true more = refl
    by_tests false true = refl
    by_tests false false = refl

pub same_task : (t u : TaskId) → u.0 ≡ t.0 → u ≡ t
same_task t u e = ap (λ n. let v : TaskId = record { 0 = n } in v) e

kind_in : (t u : TaskId) (kind kind' : StepKind) → Stepped u kind ≡ Stepped t kind' → (u ≡ t) × (kind' ≡ kind)
kind_in t u kind kind' e = (cc, cc)

-- what a step leaves of a read under way: its settled core; and where the step is the task's, it is one of a copy
abbrev pub LeavesRead : App → Counted → What → TaskId → Type 0
LeavesRead app c what t = (core_in (acted app c what) t ≡ core_in c t) × ((kind : StepKind) → what ≡ Stepped t kind → kind ≡ CopyKind)

pub read_stays : (app : App) (c : Counted) (what : What) (t : TaskId) (m : MsgId) (at noted i : ℕ) → IsSimple app → Fits app c what → IsOrderly app c
    → copy_at c.copies t.0 ≡ Some (Reads m at noted i) → LeavesRead app c what t
read_stays app c what t m at noted i simple fits h e = (
  ap (λ (p : Plain). (task_at p.tasks t.0).core) (flat_after app c what simple fits h) ∙ core what fits,
  kind what fits,
)
  where
    is : IsCopying c.plain c.promises t.0
    is = (subst (IsCopy app c.plain c.promises t.0) e (h.copies.each t.0)).0

    awake : (task_at (flat c).tasks t.0).status ≡ Awake
    awake = settle_status c.plain.values c.plain.tasks c.copies t.0 ∙ is.awake

    job : IsSome (task_at (flat c).tasks t.0).job
    job = ap is_some (settle_keeps (λ task. task.job) (λ core task. refl) c.plain.values c.plain.tasks c.copies t.0) ∙ is.working

    own_kind : (u : TaskId) (kind : StepKind) → u.0 ≡ t.0 → kind ≡ kind_of (move_of app c u.0) → kind ≡ CopyKind
    own_kind u kind same k = k ∙ ap (λ v. kind_of (move_of app c v)) same ∙ read_kind app c t m at noted i e

    stepped : (u : TaskId) (kind : StepKind) → kind ≡ kind_of (move_of app c u.0) → (u.0 ≡ t.0) ⊎ (t.0 ≢ u.0)
        → (task_at (unless (is_copying kind) app u (flat c)).tasks t.0).core ≡ core_in c t
    stepped u kind k (inl same) = ap (λ b. (task_at (unless (is_copying b) app u (flat c)).tasks t.0).core) (own_kind u kind same k)
    stepped u kind k (inr other) = by_kind (is_copying kind)
      where
        by_kind : (b : Bool) → (task_at (unless b app u (flat c)).tasks t.0).core ≡ core_in c t
        by_kind true = refl
        by_kind false = (keeps_step (outcome app.table app.image.words u.0 (flat c)) u (flat c) t.0 other awake job).2

    either : (u : TaskId) → (t.0 ≡ u.0) ⊎ (t.0 ≢ u.0) → (u.0 ≡ t.0) ⊎ (t.0 ≢ u.0)
    either u (inl same) = inl (sym same)
    either u (inr other) = inr other

    core : (what : What) → Fits app c what → (task_at (beside app what (flat c)).tasks t.0).core ≡ core_in c t
    core (Delivered event) fits = (keeps_event event (flat c) t.0 awake job).2
    core (Stepped u kind) (selects, k) = stepped u kind k (either u (cases_eq t.0 u.0))
    core Idled fits = refl
    core (Ended cause) fits = refl

    not_delivered : (event : Event) (kind : StepKind) → Delivered event ≡ Stepped t kind → ⊥
    not_delivered event kind q = cc

    not_idled : (kind : StepKind) → Idled ≡ Stepped t kind → ⊥
    not_idled kind q = cc

    not_ended : (cause : End) (kind : StepKind) → Ended cause ≡ Stepped t kind → ⊥
    not_ended cause kind q = cc

    kind : (what : What) → Fits app c what → (k : StepKind) → what ≡ Stepped t k → k ≡ CopyKind
    kind (Delivered event) fits k q = absurd (not_delivered event k q)
    kind (Stepped u kind') (selects, is) k q = (kind_in t u kind' k q).1 ∙ own_kind u kind' (ap (λ (v : TaskId). v.0) (kind_in t u kind' k q).0) is
    kind Idled fits k q = absurd (not_idled k q)
    kind (Ended cause) fits k q = absurd (not_ended cause k q)
