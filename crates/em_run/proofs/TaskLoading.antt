-- What the code of `li` does to a task of the plain machine.
use Rattle.std.proofs.Common.{◌≡◌, ℕ, ◌+◌, ◌*◌, ◌^◌, ◌<◌, ◌≤◌, Bool, false, if◌then◌else◌, List, [], ◌∷◌, ◌++◌, length, length-append, append_assoc, append-nil, map, slice_set, refl, sym, ap, ap₂, subst, ◌∙◌, arith}
use Rattle.std.specs.Fn.{iterate}
use Rattle.std.proofs.lemmas.List.{length-map, length-set, get_or-set_same, set-get_or, set-set}
use Rattle.em_base.specs.declared.ids.TaskId.{TaskId}
use Rattle.em_base.specs.declared.jobs.Status.{Status}
use Rattle.em_base.specs.declared.jobs.Status.TheVariants.{Asleep, Awake, Waits, Stopped}
use Rattle.em_base.specs.declared.tables.Table.{Table}
use Rattle.em_isa.specs.Encoding.{word_of}
use Rattle.em_hart.specs.declared.answers.Class.TheVariants.{Plain as OnRegisters}
use Rattle.em_hart.specs.Effect.{sum}
use Rattle.em_hart.specs.Hart.{Registers, with_pc, with_register}
use Rattle.em_hart.specs.Instruction.{exec}
use Rattle.em_asm.specs.Code.{loads}
use Rattle.em_gate.specs.State.{Core, Plain, Task, no_task, task_at}
use Rattle.em_gate.specs.Tasks.{after_awake}
use Rattle.em_gate.specs.Outcome.{Outcome, Works, known_at, outcome, outcome_by}
use Rattle.em_gate.specs.Effects.{after_outcome, after_step, frees, gives, lasts_after, line_by, own_after, owners_after, ports_after, shared_after, values_after, with_core, woken, woken_by}
use Rattle.em_run.proofs.Loading.{Addition, IsRun, Parts, Upper, at-word, number-run, with_value_in}

-- ---- one instruction

-- the state with another core of a task
abbrev pub with_core_at : ℕ → Core → Plain → Plain
with_core_at t core p = record p { tasks = slice_set p.tasks t (with_core core (task_at p.tasks t)) }

-- where no semaphore is freed, no task is woken
woken_none : (free : ℕ → Bool) → ((r : ℕ) → free r ≡ false) → (task : Task) (status : Status) → woken_by free task status ≡ task
woken_none free h task Asleep = refl
woken_none free h task Awake = refl
woken_none free h task (Waits s) = ap (λ b. if b then after_awake task else task) (h s.0)
woken_none free h task Stopped = refl

all_woken_none : (free : ℕ → Bool) → ((r : ℕ) → free r ≡ false) → (tasks : List Task) → map (woken free) tasks ≡ tasks
all_woken_none free h [] = refl
all_woken_none free h (task ∷ tasks) = ap₂ (λ (x : Task) (xs : List Task). x ∷ xs) (woken_none free h task task.status) (all_woken_none free h tasks)

-- an instruction that leaves the shared window changes the core of its task alone
works : (core : Core) (t : TaskId) (p : Plain) → after_outcome (Works OnRegisters core p.shared) t p ≡ with_core_at t.0 core p
unfolding frees gives lasts_after line_by own_after owners_after ports_after shared_after values_after
works core t p =
    ap₂ (λ (tasks : List Task) lines. record p { tasks = tasks; lines = lines })
    (all_woken_none (frees (Works OnRegisters core p.shared) t.0 p.owners) (λ r. refl) (slice_set p.tasks t.0 (with_core core (task_at p.tasks t.0))))
    (append-nil p.lines)

-- ---- the same task again

core-with_core_at : (t : ℕ) (core : Core) (p : Plain) → t < length p.tasks → task_at (with_core_at t core p).tasks t ≡ with_core core (task_at p.tasks t)
core-with_core_at t core p h = get_or-set_same p.tasks t (with_core core (task_at p.tasks t)) no_task h

with_core_at-twice : (t : ℕ) (one other : Core) (p : Plain) → t < length p.tasks → with_core_at t other (with_core_at t one p) ≡ with_core_at t other p
with_core_at-twice t one other p h =
    ap (λ (task : Task). let after : Plain = record p { tasks = slice_set (with_core_at t one p).tasks t (with_core other task) } in after) (core-with_core_at t one p h)
    ∙ ap (λ (tasks : List Task). let after : Plain = record p { tasks = tasks } in after) (set-set p.tasks t (with_core one (task_at p.tasks t)) (with_core other (task_at p.tasks t)))

-- ---- many instructions

-- the plain machine goes through words that stand at the program counter of a task
run-steps : (table : Table) (t : TaskId) (words : List ℕ) (p : Plain) (core : Core) (after : Registers) → t.0 < length p.tasks → (task_at p.tasks t.0).core ≡ core
    → IsRun words core.registers core.own p.shared after
    → (before rest : List ℕ) → core.registers.pc ≡ 4 * length before → 4 * length (before ++ words ++ rest) < 2 ^ 32
    → iterate (after_step table (before ++ words ++ rest) t) (length words) p ≡ with_core_at t.0 (record { registers = after; own = core.own }) p
run-steps table t [] p core after there own run before rest at few = sym (same_tasks (registers_are ∙ sym own))
  where
    registers_are : (let other : Core = record { registers = after; own = core.own } in other ≡ core)
    registers_are = ap (λ r. let other : Core = record { registers = r; own = core.own } in other) (sym run)

    same_tasks : {other : Core} → other ≡ (task_at p.tasks t.0).core → with_core_at t.0 other p ≡ p
    same_tasks e =
        ap (λ (c : Core). with_core_at t.0 c p) e
        ∙ ap (λ (tasks : List Task). let same : Plain = record p { tasks = tasks } in same) (set-get_or p.tasks t.0 no_task)
run-steps table t (word ∷ words) p core after there own (between, outcome_is, pc, run) before rest at few =
    ap (iterate (after_step table code t) (length words)) (ap (λ (o : Outcome). after_outcome o t p) came ∙ works next t p)
    ∙ subst (λ (code : List ℕ). iterate (after_step table code t) (length words) (with_core_at t.0 next p) ≡ with_core_at t.0 last (with_core_at t.0 next p)) same
    (run-steps table t words (with_core_at t.0 next p) next after still next_own run (before ++ word ∷ []) rest pc_there (subst (λ (code : List ℕ). 4 * length code < 2 ^ 32) (sym same) few))
    ∙ with_core_at-twice t.0 next last p there
  where
    code : List ℕ
    code = before ++ (word ∷ words) ++ rest

    next : Core
    next = record { registers = between; own = core.own }

    last : Core
    last = record { registers = after; own = core.own }

    came : outcome table code t.0 p ≡ Works OnRegisters next p.shared
    came =
        ap (λ (c : Core). outcome_by table t.0 (known_at p t.0) p.owners c (exec c.registers c.own p.shared code)) own
        ∙ ap (outcome_by table t.0 (known_at p t.0) p.owners core)
        (ap (exec core.registers core.own p.shared) (append_assoc before (word ∷ words) rest) ∙ at-word core.registers core.own p.shared before word (words ++ rest) at ∙ outcome_is)

    same : before ++ (word ∷ []) ++ words ++ rest ≡ before ++ (word ∷ words) ++ rest
    same = ap (λ code. code ++ rest) (append_assoc before (word ∷ []) words)

    long : length before + 1 ≤ length (before ++ (word ∷ words) ++ rest)
    long = simp length-append (omega arith)

    pc_there : between.pc ≡ 4 * length (before ++ word ∷ [])
    pc_there = omega (arith, long, length-append before (word ∷ []))

    still : t.0 < length (with_core_at t.0 next p).tasks
    still = omega (arith, there, length-set p.tasks t.0 (with_core next (task_at p.tasks t.0)))

    next_own : (task_at (with_core_at t.0 next p).tasks t.0).core ≡ next
    next_own = ap (λ (task : Task). task.core) (core-with_core_at t.0 next p there)

pub number-loads : Upper → Addition → Parts → (table : Table) (t : TaskId) (rd value : ℕ) → rd < 32 → value < 2 ^ 32
    → (p : Plain) → t.0 < length p.tasks → (let core = (task_at p.tasks t.0).core in
    length core.registers.values ≡ 32
    → (before rest : List ℕ) → core.registers.pc ≡ 4 * length before
    → (let words = map word_of (loads rd value) in
    4 * length (before ++ words ++ rest) < 2 ^ 32
    → iterate (after_step table (before ++ words ++ rest) t) (length words) p
    ≡ with_core_at t.0 (record { registers = with_pc (with_register core.registers rd value) (4 * length (before ++ words)); own = core.own }) p))
number-loads upper addition parts table t rd value h k p there size before rest at few =
    run-steps table t words p core (with_value_in core.registers rd value (length (loads rd value))) there refl
    (number-run upper addition parts rd value h k core.registers core.own p.shared size) before rest at few
    ∙ ap (λ (pc : ℕ). with_core_at t.0 (record { registers = with_pc (with_register core.registers rd value) pc; own = core.own }) p) pc_after
  where
    core : Core
    core = (task_at p.tasks t.0).core

    words : List ℕ
    words = map word_of (loads rd value)

    pc_after : sum core.registers.pc (4 * length (loads rd value)) ≡ 4 * length (before ++ words)
    pc_after = omega (arith, length-append before words, length-append (before ++ words) rest, length-map (loads rd value) word_of)
