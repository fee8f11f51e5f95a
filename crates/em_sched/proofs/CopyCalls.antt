-- The call with which a write or a read begins: what it tells of its message, and that it is the same call in every other state.
use Rattle.std.specs.Bool.{⊤}
use Rattle.std.proofs.Common.{◌≡◌, ◌∙◌, ℕ, ◌<◌, ◌/◌, ◌%◌, ◌==◌, ℤ, not, Bool, true, false, if◌then◌else◌, nat_lt, List, [], ◌∷◌, length, slice_index, Option, None, Some, sym, ap, subst, refl, arith}
use Rattle.std.proofs.lemmas.Bool.{false≢true}
use Rattle.std.proofs.lemmas.Bool.Decides.{nat_tests}
use Rattle.em_base.specs.declared.apps.App.{App}
use Rattle.em_base.specs.declared.ids.TaskId.{TaskId}
use Rattle.em_base.specs.declared.tables.Table.{Table}
use Rattle.em_base.specs.Selection.{owner_at}
use Rattle.em_hart.specs.Effect.{Effect, writes, jumps, jumps_by_register, branches, loads, stores, passes, calls, breaks, effect}
use Rattle.em_hart.specs.Fields.{rd, rs1, rs2}
use Rattle.em_hart.specs.Hart.{Memory, Registers, has_bytes, register, with_register}
use Rattle.em_hart.specs.Instruction.{Outcome as Carried, Ran, Call as CallInstruction, Fault, effect_outcome, exec, is_aligned, is_inside_code, mnemonic_outcome, outside_code, transfer_outcome, word_outcome}
use Rattle.em_hart.specs.InstructionTable.{Mnemonic, mnemonic}
use Rattle.em_gate.specs.declared.calls.Call.{Call}
use Rattle.em_gate.specs.declared.calls.Call.TheVariants.{WaitJob, Acquire, Release, Out, Write, Read, Signal, Exit, Unknown}
use Rattle.em_gate.specs.Calls as gate
use Rattle.em_gate.specs.Calls.{Known, call_of, is_in_own, refusal, refusal_tests, words_of, E_ADDR, E_ARG, E_ROLE}
use Rattle.em_gate.specs.Outcome.{Outcome, Publishes, Fetches, accepted, acquire_outcome, call_outcome, call_outcome_by, known_at, outcome, outcome_by}
use Rattle.em_gate.specs.State.{Core, Plain, task_at}
use Rattle.em_system.proofs.Accepted.{first_passes}
use Rattle.em_sched.specs.Agreement.{IsAtWrite}

-- ---- an instruction that is a call

abbrev is_call : Carried → Bool
is_call (Ran class registers own shared) = false
is_call CallInstruction = true
is_call (Fault cause) = false

abbrev calls_by : Effect → Bool
calls_by (writes value) = false
calls_by (jumps value target) = false
calls_by (jumps_by_register value target) = false
calls_by (branches condition target) = false
calls_by (loads signed n address) = false
calls_by (stores n address value) = false
calls_by passes = false
calls_by calls = true
calls_by breaks = false

either : (b : Bool) (x y : Carried) → is_call x ≡ false → is_call y ≡ false → is_call (if b then x else y) ≡ false
either true x y here there = here
either false x y here there = there

no_transfer : (target : ℕ) (registers : Registers) (own shared : Memory) → is_call (transfer_outcome target registers own shared) ≡ false
no_transfer target registers own shared = either (target % 4 == 0) _ _ refl refl

-- an effect is a call by itself, whatever the windows
effect_calls : (e : Effect) (d : ℕ) (registers : Registers) (own shared : Memory) → is_call (effect_outcome e d registers own shared) ≡ calls_by e
unfolding effect_outcome
effect_calls (writes value) d registers own shared = refl
effect_calls (jumps value target) d registers own shared = no_transfer target (with_register registers d value) own shared
effect_calls (jumps_by_register value target) d registers own shared = no_transfer target (with_register registers d value) own shared
effect_calls (branches condition target) d registers own shared = either condition _ _ (no_transfer target registers own shared) refl
effect_calls (loads signed n address) d registers own shared =
    either (not (is_aligned n address)) _ _ refl (either (has_bytes own n address) _ _ refl (either (has_bytes shared n address) _ _ refl refl))
effect_calls (stores n address value) d registers own shared =
    either (not (is_aligned n address)) _ _ refl (either (has_bytes own n address) _ _ refl (either (has_bytes shared n address) _ _ refl refl))
effect_calls passes d registers own shared = refl
effect_calls calls d registers own shared = refl
effect_calls breaks d registers own shared = refl

word_calls : (name : Option Mnemonic) (word : ℕ) (registers : Registers) (own shared shared' : Memory)
    → is_call (mnemonic_outcome name word registers own shared) ≡ is_call (mnemonic_outcome name word registers own shared')
unfolding mnemonic_outcome
word_calls None word registers own shared shared' = refl
word_calls (Some name) word registers own shared shared' =
    let e = effect name word registers.pc (register registers (rs1 word)) (register registers (rs2 word)) in
    effect_calls e (rd word) registers own shared ∙ sym (effect_calls e (rd word) registers own shared')

same_call : (registers : Registers) (own shared shared' : Memory) (code : List ℕ)
    → is_call (exec registers own shared code) ≡ is_call (exec registers own shared' code)
unfolding exec
same_call registers own shared shared' code = by_inside (is_inside_code code registers.pc)
  where
    word : ℕ
    word = slice_index code (registers.pc / 4)

    by_inside : (b : Bool) → is_call (if b then word_outcome word registers own shared else Fault outside_code)
        ≡ is_call (if b then word_outcome word registers own shared' else Fault outside_code)
    by_inside true = word_calls (mnemonic word) word registers own shared shared'
    by_inside false = refl

call_is : (carried : Carried) → is_call carried ≡ true → carried ≡ CallInstruction
call_is (Ran class registers own shared) e = absurd (false≢true e)
call_is CallInstruction e = refl
call_is (Fault cause) e = absurd (false≢true e)

-- one that is a call is one whatever the shared window has
call_anywhere : (core : Core) (code : List ℕ) (shared shared' : Memory) → exec core.registers core.own shared code ≡ CallInstruction
    → exec core.registers core.own shared' code ≡ CallInstruction
call_anywhere core code shared shared' e =
    call_is (exec core.registers core.own shared' code) (same_call core.registers core.own shared' shared code ∙ ap is_call e)

-- ---- what it calls

-- what such an outcome tells of its call
abbrev Asks : Table → ℕ → Known → Call → Outcome → Type 0
Asks table t known call (Publishes m at count) = (call ≡ Write m at) × (refusal (Write m at) table t known ≡ None) × (count ≡ words_of table m)
Asks table t known call (Fetches m at) = (call ≡ Read m at) × (refusal (Read m at) table t known ≡ None)
Asks table t known call _ = ⊤

got_asks : (table : Table) (t : ℕ) (known : Known) (call : Call) (s : ℕ) (owner : Option TaskId) → Asks table t known call (acquire_outcome s owner)
got_asks table t known call s None = tt
got_asks table t known call s (Some u) = tt

accepted_asks : (table : Table) (t : ℕ) (known : Known) (owners : List (Option TaskId)) (call : Call) → refusal call table t known ≡ None
    → Asks table t known call (accepted table owners call)
accepted_asks table t known owners WaitJob e = tt
accepted_asks table t known owners (Acquire s) e = got_asks table t known (Acquire s) s (owner_at owners s)
accepted_asks table t known owners (Release s) e = tt
accepted_asks table t known owners (Out port word) e = tt
accepted_asks table t known owners (Write m at) e = (refl, e, refl)
accepted_asks table t known owners (Read m at) e = (refl, e)
accepted_asks table t known owners (Signal u word) e = tt
accepted_asks table t known owners Exit e = tt
accepted_asks table t known owners (Unknown number) e = tt

call_asks : (table : Table) (t : ℕ) (known : Known) (owners : List (Option TaskId)) (call : Call) (answer : Option ℤ)
    → refusal call table t known ≡ answer
    → Asks table t known call (call_outcome_by table owners call answer)
call_asks table t known owners call None e = accepted_asks table t known owners call e
call_asks table t known owners call (Some code) e = tt

-- the instruction is a call where it begins a copy
abbrev Calls : Carried → Outcome → Type 0
Calls carried (Publishes m at count) = carried ≡ CallInstruction
Calls carried (Fetches m at) = carried ≡ CallInstruction
Calls carried _ = ⊤

called : (o : Outcome) → Calls CallInstruction o
called (Publishes m at count) = refl
called (Fetches m at) = refl
called _ = tt

outcome_asks : (table : Table) (t : ℕ) (known : Known) (owners : List (Option TaskId)) (core : Core) (carried : Carried)
    → let o = outcome_by table t known owners core carried in Asks table t known (call_of core.registers) o × Calls carried o
outcome_asks table t known owners core (Ran class registers own shared) = (tt, tt)
outcome_asks table t known owners core CallInstruction =
    let call = call_of core.registers in
    (call_asks table t known owners call (refusal call table t known) refl, called (call_outcome table t known owners core))
outcome_asks table t known owners core (Fault cause) = (tt, tt)

-- what an outcome of a step that begins a copy tells
abbrev Told : Table → List ℕ → ℕ → Plain → Outcome → Type 0
Told table code t p o =
    let core : Core = (task_at p.tasks t).core in
    Asks table t (known_at p t) (call_of core.registers) o × Calls (exec core.registers core.own p.shared code) o

told : (table : Table) (code : List ℕ) (t : ℕ) (p : Plain) (o : Outcome) → outcome table code t p ≡ o → Told table code t p o
told table code t p o e =
    let core : Core = (task_at p.tasks t).core in
    subst (Told table code t p) e (outcome_asks table t (known_at p t) p.owners core (exec core.registers core.own p.shared code))

-- ---- the write and the read

-- whether a write is refused doesn't rest on what is known of others
write_refusal : (m at : ℕ) (table : Table) (t : ℕ) (known known' : Known) → refusal (Write m at) table t known ≡ refusal (Write m at) table t known'
unfolding refusal_tests
write_refusal m at table t known known' = refl

call_write : (table : Table) (t m at : ℕ) (known : Known) (owners : List (Option TaskId)) (call : Call) → call ≡ Write m at
    → refusal (Write m at) table t known ≡ None
    → call_outcome_by table owners call (refusal call table t known) ≡ Publishes m at (words_of table m)
call_write table t m at known owners call is e =
    ap (λ c. call_outcome_by table owners c (refusal c table t known)) is ∙ ap (call_outcome_by table owners (Write m at)) e

-- a write that begins: its task stands at the same write in every state
pub at_write : (app : App) (t m at count : ℕ) (p : Plain) → outcome app.table app.image.words t p ≡ Publishes m at count
    → IsAtWrite app t m at (task_at p.tasks t).core
at_write app t m at count p e =
    let core : Core = (task_at p.tasks t).core in
    let ((is, accepted, same), call) = told app.table app.image.words t p (Publishes m at count) e in
    record {
      call = λ shared. call_anywhere core app.image.words p.shared shared call;
      write = λ known owners.
          call_write app.table t m at known owners (call_of core.registers) is (write_refusal m at app.table t known (known_at p t) ∙ accepted);
    }

below : (n most : ℕ) → not (nat_lt n most) ≡ false → n < most
below n most e = grind (arith, nat_tests, e)

message_within : (m at : ℕ) (table : Table) (t : ℕ) (known : Known) → refusal (Read m at) table t known ≡ None → m < length table.messages
unfolding refusal_tests
message_within m at table t known e =
    below m (length table.messages) (first_passes (not (nat_lt m (length table.messages))) E_ARG
    ((not (gate.reads table t m), E_ROLE) ∷ (not (is_in_own table.own (words_of table m) at), E_ADDR) ∷ []) e).0

-- a read that begins is of one of the messages
pub reads_message : (app : App) (t m at : ℕ) (p : Plain) → outcome app.table app.image.words t p ≡ Fetches m at → m < length app.table.messages
reads_message app t m at p e =
    let ((is, accepted), call) = told app.table app.image.words t p (Fetches m at) e in
    message_within m at app.table t (known_at p t) accepted

-- a task at a write takes the step of a write that publishes, in every state that has its core
pub writes_anywhere : (app : App) (t m at : ℕ) (p : Plain) → IsAtWrite app t m at (task_at p.tasks t).core
    → outcome app.table app.image.words t p ≡ Publishes m at (words_of app.table m)
writes_anywhere app t m at p is =
    let core : Core = (task_at p.tasks t).core in
    ap (outcome_by app.table t (known_at p t) p.owners core) (is.call p.shared) ∙ is.write (known_at p t) p.owners
