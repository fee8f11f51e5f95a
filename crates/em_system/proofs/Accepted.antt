-- What an accepted call asks of its operands.
use Rattle.std.proofs.Common.{◌≡◌, ◌∙◌, ℕ, ◌<◌, Bool, true, false, not, List, [], ◌∷◌, length, nat_lt, None, Some, sym, ap, refl, arith, ℤ}
use Rattle.std.proofs.lemmas.Bool.Decides.{nat_tests}
use Rattle.em_base.specs.declared.tables.Table.{Table}
use Rattle.em_base.specs.declared.ids.MsgId.{MsgId}
use Rattle.em_gate.specs.declared.calls.Call.{Call}
use Rattle.em_gate.specs.declared.calls.Call.TheVariants.{Acquire, Release, Out, Write, Read, Signal, Unknown}
use Rattle.em_gate.specs.Calls.{Known, first_refusal, refusal, refusal_tests, uses, owns_any, is_background, writes, reads, is_in_own, words_of, E_ADDR, E_ARG, E_CALL, E_FULL, E_NEST, E_OWNER, E_PORT, E_ROLE, E_USE}
use Rattle.em_system.specs.Asked.{IsGranted, IsInside}
use Rattle.em_system.specs.declared.stepping.Transfer.TheVariants.{Write as WriteTransfer, Read as ReadTransfer}

some_not_none : (code : ℤ) → Some code ≡ None → ⊥
some_not_none code e = cc

-- a test that refuses nothing doesn't hold, and neither does any later one
pub first_passes : (b : Bool) (code : ℤ) (rest : List (Bool × ℤ)) → first_refusal ((b, code) ∷ rest) ≡ None → (b ≡ false) × (first_refusal rest ≡ None)
first_passes true code rest e = absurd (some_not_none code e)
first_passes false code rest e = (refl, e)

below : (n most : ℕ) → not (nat_lt n most) ≡ false → n < most
below n most e = grind (arith, nat_tests, e)

-- what refuses nothing of a call refuses nothing of the one that it is
pub one_passes : {call one : Call} {table table' : Table} (t : ℕ) (known : Known) → call ≡ one → table' ≡ table
    → refusal call table t known ≡ None → refusal one table' t known ≡ None
one_passes {call} {one} {table} {table'} t known is same e =
    ap (λ k. refusal k table' t known) (sym is) ∙ ap (λ k. refusal call k t known) same ∙ e

pub acquire_within : (s : ℕ) (table : Table) (t : ℕ) (known : Known) → refusal (Acquire s) table t known ≡ None → s < table.semaphores
unfolding refusal_tests
acquire_within s table t known e = below s table.semaphores (first_passes (not (nat_lt s table.semaphores)) E_ARG ((not (uses table t s), E_USE) ∷ (owns_any known, E_NEST) ∷ []) e).0

pub release_within : (s : ℕ) (table : Table) (t : ℕ) (known : Known) → refusal (Release s) table t known ≡ None → s < table.semaphores
unfolding refusal_tests
release_within s table t known e = below s table.semaphores (first_passes (not (nat_lt s table.semaphores)) E_ARG ((not (known.owns s), E_OWNER) ∷ []) e).0

pub out_within : (port word : ℕ) (table : Table) (t : ℕ) (known : Known) → refusal (Out port word) table t known ≡ None → port < 8
unfolding refusal_tests
out_within port word table t known e = below port 8 (first_passes (not (nat_lt port 8)) E_ARG ((not (known.plugged port), E_PORT) ∷ []) e).0

pub signal_within : (u word : ℕ) (table : Table) (t : ℕ) (known : Known) → refusal (Signal u word) table t known ≡ None → u < length table.tasks
unfolding refusal_tests
signal_within u word table t known e = below u (length table.tasks) (first_passes (not (nat_lt u (length table.tasks))) E_ARG ((not (is_background table u), E_ROLE) ∷ (known.full u, E_FULL) ∷ []) e).0

-- a test that refuses nothing holds
passes : (b : Bool) → not b ≡ false → b ≡ true
passes true e = refl
passes false e = cc

abbrev test_role : Bool → Bool × ℤ
test_role b = (not b, E_ROLE)

abbrev test_words : ℕ → ℕ → Table → Bool × ℤ
test_words m at table = (not (is_in_own table.own (words_of table m) at), E_ADDR)

-- an accepted transfer by a task with that role
granted_by : (role : Bool) (m at : ℕ) (table : Table)
    → first_refusal ((not (nat_lt m (length table.messages)), E_ARG) ∷ test_role role ∷ test_words m at table ∷ []) ≡ None
    → IsInside table m at × (role ≡ true)
granted_by role m at table e =
    let first = first_passes (not (nat_lt m (length table.messages))) E_ARG (test_role role ∷ test_words m at table ∷ []) e in
    let second = first_passes (not role) E_ROLE (test_words m at table ∷ []) first.1 in
    let third = first_passes (not (is_in_own table.own (words_of table m) at)) E_ADDR [] second.1 in
    (record { exists = below m (length table.messages) first.0; inside = passes (is_in_own table.own (words_of table m) at) third.0 }, passes role second.0)

-- an accepted write is one by the writer, and an accepted read one by a reader
pub write_granted : (m : MsgId) (at : ℕ) (table : Table) (t : ℕ) (known : Known) → refusal (Write m.0 at) table t known ≡ None → IsGranted table t (WriteTransfer m at)
unfolding refusal_tests
write_granted m at table t known e = granted_by (writes table t m.0) m.0 at table e

pub read_granted : (m : MsgId) (at : ℕ) (table : Table) (t : ℕ) (known : Known) → refusal (Read m.0 at) table t known ≡ None → IsGranted table t (ReadTransfer m at)
unfolding refusal_tests
read_granted m at table t known e = granted_by (reads table t m.0) m.0 at table e

pub write_within : (m at : ℕ) (table : Table) (t : ℕ) (known : Known) → refusal (Write m at) table t known ≡ None → m < length table.messages
unfolding refusal_tests
write_within m at table t known e = (granted_by (writes table t m) m at table e).0.exists

pub read_within : (m at : ℕ) (table : Table) (t : ℕ) (known : Known) → refusal (Read m at) table t known ≡ None → m < length table.messages
unfolding refusal_tests
read_within m at table t known e = (granted_by (reads table t m) m at table e).0.exists

pub no_unknown : (number : ℕ) (table : Table) (t : ℕ) (known : Known) → refusal (Unknown number) table t known ≡ None → ⊥
unfolding refusal_tests
no_unknown number table t known e = some_not_none E_CALL e
