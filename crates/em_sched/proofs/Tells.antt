-- What the outcome of a task's step tells of the owners.
use Rattle.std.specs.Bool.{⊤}
use Rattle.std.proofs.Common.{◌≡◌, ◌≢◌, ◌∙◌, inl, inr, ℕ, ◌+◌, ◌<◌, ◌≤◌, ℤ, not, Bool, true, false, List, [], ◌∷◌, length, Option, None, Some, sym, ap, subst, refl, arith}
use Rattle.std.specs.List.{list_any, range_with_len}
use Rattle.std.proofs.lemmas.Bool.{cases_lt, eq-eqb, eqb-true, false≢true}
use Rattle.std.proofs.lemmas.List.{get_or_past}
use Rattle.std.proofs.lemmas.List.Folds.{list_any_at}
use Rattle.std.proofs.lemmas.List.FromFn.{get_or-range_with_len, length-range_with_len}
use Rattle.em_base.specs.declared.ids.TaskId.{TaskId}
use Rattle.em_base.specs.declared.tables.Table.{Table}
use Rattle.em_base.specs.Selection.{is_task, owner_at}
use Rattle.em_hart.specs.Instruction.{Outcome as Carried, Ran, Call as CallInstruction, Fault, exec}
use Rattle.em_gate.specs.declared.calls.Call.{Call}
use Rattle.em_gate.specs.declared.calls.Call.TheVariants.{WaitJob, Acquire, Release, Out, Write, Read, Signal, Exit, Unknown}
use Rattle.em_gate.specs.Calls.{Known, call_of, most_semaphores, owns_any, refusal, refusal_tests, uses, E_ARG, E_HELD, E_NEST, E_OWNER, E_USE}
use Rattle.em_gate.specs.Outcome.{Outcome, Works, Falls, Refuses, Ends, Gets, Blocks, Frees, Puts, Publishes, Fetches, Signals, Leaves, acquire_outcome, accepted, call_outcome_by, known_at, outcome, outcome_by}
use Rattle.em_gate.specs.State.{Core, Plain, task_at}
use Rattle.em_system.proofs.Accepted.{acquire_within, first_passes, release_within, signal_within}

-- the task t owns no semaphore
abbrev pub OwnsNothing : List (Option TaskId) → ℕ → Type 0
OwnsNothing owners t = (s : ℕ) (u : TaskId) → owner_at owners s ≡ Some u → u.0 ≢ t

-- what an outcome of the task t tells
abbrev pub Tells : Table → List (Option TaskId) → ℕ → Outcome → Type 0
Tells table owners t (Works class core shared) = ⊤
Tells table owners t (Falls cause) = ⊤
Tells table owners t (Refuses code) = ⊤
Tells table owners t Ends = OwnsNothing owners t
Tells table owners t (Gets s) = (owner_at owners s ≡ None) × (s < table.semaphores)
Tells table owners t (Blocks s) = OwnsNothing owners t × ((u : TaskId) × (owner_at owners s ≡ Some u))
Tells table owners t (Frees s) = (owner_at owners s ≡ Some (record { 0 = t })) × (s < table.semaphores)
Tells table owners t (Puts port word) = ⊤
Tells table owners t (Publishes m at count) = ⊤
Tells table owners t (Fetches m at) = ⊤
Tells table owners t (Signals u word) = u < length table.tasks
Tells table owners t Leaves = OwnsNothing owners t

-- ---- who owns nothing

not_owner : (t : ℕ) (u : TaskId) → is_task t (Some u) ≡ false → u.0 ≢ t
not_owner t u e same = false≢true (sym e ∙ eq-eqb u.0 t same)

-- where none of the semaphores is told to be owned, none is
pub owns_nothing : (owners : List (Option TaskId)) (t : ℕ) → length owners ≤ most_semaphores
    → list_any (λ s. is_task t (owner_at owners s)) (range_with_len 0 most_semaphores) ≡ false → OwnsNothing owners t
owns_nothing owners t few nobody = λ s u e. elim (cases_lt s (length owners)) as (λ _. u.0 ≢ t) [
  | inl h ↦ not_owner t u (ap (is_task t) (sym e) ∙ not_here s (is_task t (owner_at owners s)) refl (omega (arith, h, few)))
  | inr h ↦ absurd (not_past u (sym (get_or_past owners s None h) ∙ e))
]
  where
    not_past : (u : TaskId) → None ≡ Some u → ⊥
    not_past u e = cc

    none : (s : ℕ) → 0 + s ≡ s
    none s = omega arith

    at : (s : ℕ) → s < most_semaphores → is_task t (owner_at owners s) ≡ true → list_any (λ s. is_task t (owner_at owners s)) (range_with_len 0 most_semaphores) ≡ true
    at s h e = list_any_at (λ s. is_task t (owner_at owners s)) (range_with_len 0 most_semaphores) s 0 (subst (λ n. s < n) (sym (length-range_with_len 0 most_semaphores)) h)
        (ap (λ r. is_task t (owner_at owners r)) (get_or-range_with_len 0 most_semaphores s 0 h ∙ none s) ∙ e)

    not_here : (s : ℕ) (b : Bool) → is_task t (owner_at owners s) ≡ b → s < most_semaphores → is_task t (owner_at owners s) ≡ false
    not_here s true e h = absurd (false≢true (sym nobody ∙ at s h e))
    not_here s false e h = e

owner_is : (t : ℕ) (owner : Option TaskId) → is_task t owner ≡ true → owner ≡ Some (record { 0 = t })
owner_is t None e = absurd (false≢true e)
owner_is t (Some u) e = ap (λ n. Some (record { 0 = n })) (eqb-true u.0 t e)

not_false : (b : Bool) → not b ≡ false → b ≡ true
not_false true e = refl
not_false false e = absurd (false≢true (sym e))

-- ---- outcomes

-- what an accepted call tells
accepted_tells : (table : Table) (owners : List (Option TaskId)) (t : ℕ) (known : Known) (call : Call) → length owners ≤ most_semaphores
    → ((s : ℕ) → known.owns s ≡ is_task t (owner_at owners s)) → known.owns ≡ (λ s. is_task t (owner_at owners s))
    → refusal call table t known ≡ None → Tells table owners t (accepted table owners call)
unfolding refusal_tests
accepted_tells table owners t known WaitJob few is same e =
    owns_nothing owners t few (ap (λ owns. list_any owns (range_with_len 0 most_semaphores)) (sym same) ∙ (first_passes (owns_any known) E_HELD [] e).0)
accepted_tells table owners t known (Acquire s) few is same e =
    let (exists, rest) = first_passes _ E_ARG ((not (uses table t s), E_USE) ∷ (owns_any known, E_NEST) ∷ []) e in
    let (used, last) = first_passes _ E_USE ((owns_any known, E_NEST) ∷ []) rest in
    by_owner (owner_at owners s) refl
    (owns_nothing owners t few (ap (λ owns. list_any owns (range_with_len 0 most_semaphores)) (sym same) ∙ (first_passes (owns_any known) E_NEST [] last).0))
  where
    by_owner : (owner : Option TaskId) → owner_at owners s ≡ owner → OwnsNothing owners t → Tells table owners t (acquire_outcome s owner)
    by_owner None o free = (o, acquire_within s table t known e)
    by_owner (Some u) o free = (free, (u, o))
accepted_tells table owners t known (Release s) few is same e =
    let (exists, rest) = first_passes _ E_ARG ((not (known.owns s), E_OWNER) ∷ []) e in
    (owner_is t (owner_at owners s) (sym (is s) ∙ not_false (known.owns s) (first_passes (not (known.owns s)) E_OWNER [] rest).0), release_within s table t known e)
accepted_tells table owners t known (Out port word) few is same e = tt
accepted_tells table owners t known (Write m at) few is same e = tt
accepted_tells table owners t known (Read m at) few is same e = tt
accepted_tells table owners t known (Signal u word) few is same e = signal_within u word table t known e
accepted_tells table owners t known Exit few is same e =
    owns_nothing owners t few (ap (λ owns. list_any owns (range_with_len 0 most_semaphores)) (sym same) ∙ (first_passes (owns_any known) E_HELD [] e).0)
accepted_tells table owners t known (Unknown number) few is same e = tt

call_tells : (table : Table) (p : Plain) (t : ℕ) (call : Call) → length p.owners ≤ most_semaphores
    → (answer : Option ℤ) → refusal call table t (known_at p t) ≡ answer → Tells table p.owners t (call_outcome_by table p.owners call answer)
call_tells table p t call few None e = accepted_tells table p.owners t (known_at p t) call few (λ s. refl) refl e
call_tells table p t call few (Some code) e = tt

-- what a step of the task t tells
pub tells : (table : Table) (code : List ℕ) (t : ℕ) (p : Plain) → length p.owners ≤ most_semaphores → Tells table p.owners t (outcome table code t p)
tells table code t p few = by_carried (exec (task_at p.tasks t).core.registers (task_at p.tasks t).core.own p.shared code)
  where
    core : Core
    core = (task_at p.tasks t).core

    by_carried : (carried : Carried) → Tells table p.owners t (outcome_by table t (known_at p t) p.owners core carried)
    by_carried (Ran class registers own shared) = tt
    by_carried CallInstruction =
        call_tells table p t (call_of core.registers) few (refusal (call_of core.registers) table t (known_at p t)) refl
    by_carried (Fault cause) = tt
