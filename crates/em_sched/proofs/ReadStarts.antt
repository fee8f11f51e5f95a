-- How a read begins: the one under way after a step was so before it, or begins by it with the newest value.
use Rattle.std.proofs.Common.{◌≡◌, ◌≢◌, ◌∙◌, ◌⊎◌, inl, inr, ℕ, ◌+◌, ◌<◌, nat_lt, nat_le, if◌then◌else◌, Bool, true, false, length, slice_set, Option, None, Some, sym, ap, subst, refl}
use Rattle.std.proofs.lemmas.Bool.{cases_eq}
use Rattle.std.proofs.lemmas.List.{get_or-set_other, get_or-set_same, length-set}
use Rattle.em_base.specs.declared.apps.App.{App}
use Rattle.em_base.specs.declared.ids.MsgId.{MsgId}
use Rattle.em_base.specs.declared.ids.TaskId.{TaskId}
use Rattle.em_trace.specs.declared.lines.Line.{Line}
use Rattle.em_trace.specs.declared.lines.Line.TheVariants.{Get}
use Rattle.em_admit.specs.Depth.{depth}
use Rattle.em_gate.specs.Calls.{words_of}
use Rattle.em_gate.specs.Effects.{after_answer, newest, with_value}
use Rattle.em_gate.specs.Outcome.{Outcome, Works, Falls, Refuses, Ends, Gets, Blocks, Frees, Puts, Publishes, Fetches, Signals, Leaves, outcome}
use Rattle.em_gate.specs.State.{Copy, Counted, Reads, Task, Writes, task_at, value_at}
use Rattle.em_kernel.specs.declared.did.StepKind.{StepKind}
use Rattle.em_kernel.specs.declared.did.StepKind.TheVariants.{BeginRead}
use Rattle.em_kernel.specs.declared.did.What.{What}
use Rattle.em_kernel.specs.declared.did.What.TheVariants.{Delivered, Stepped, Idled, Ended}
use Rattle.em_kernel.specs.Moves.{Move, Acts, StartsWrite, TakesWord, EndsWrite, StartsRead, PutsWord, EndsRead, Lapses, after_move, begun_at, copy_at, first_move, move_by, move_line, move_of}
use Rattle.em_kernel.specs.Step.{kind_of}
use Rattle.em_sched.specs.Turns.{acted}
use Rattle.em_sched.proofs.CountedSteps.{Says}
use Rattle.em_sched.proofs.Flat.{flat_here}
use Rattle.em_sched.proofs.Levels.{Fits, chosen_is}
use Rattle.em_sched.proofs.Orderly.{IsOrderly}
use Rattle.em_sched.proofs.ReadSteps.{core_in, same_task}
use Rattle.em_sched.proofs.Words.{settled_first}

-- a step begins a read of the newest value, which its line tells
pub record BeginsRead (app : App) (c : Counted) (what : What) (t : TaskId) (m : MsgId) (at noted : ℕ) : Type 0 where
  pub begins : what ≡ Stepped t BeginRead
  pub line : (line : Option Line) → Says app c what line → line ≡ Some (Get t m noted)
  pub number : noted ≡ newest c.plain.values m.0
  pub core : core_in (acted app c what) t ≡ after_answer 0 (with_value at (value_at c.plain.values m.0 noted) (task_at c.plain.tasks t.0).core)

-- the read under way after a step was so before it, or begins by it
abbrev pub Was : App → Counted → What → TaskId → MsgId → ℕ → ℕ → Type 0
Was app c what t m at noted = ((j : ℕ) × (copy_at c.copies t.0 ≡ Some (Reads m at noted j))) ⊎ BeginsRead app c what t m at noted

-- the copies of others stay
copies_other : (app : App) (c : Counted) (move : Move) (u : TaskId) (t : ℕ) → t ≢ u.0
    → copy_at (after_move app move u c).copies t ≡ copy_at c.copies t
unfolding after_move
copies_other app c (Acts o) u t other = refl
copies_other app c (StartsWrite m at) u t other = get_or-set_other c.copies u.0 t _ None other
copies_other app c (TakesWord m at i) u t other = get_or-set_other c.copies u.0 t _ None other
copies_other app c (EndsWrite m at i) u t other = get_or-set_other c.copies u.0 t _ None other
copies_other app c (StartsRead m at) u t other = get_or-set_other c.copies u.0 t _ None other
copies_other app c (PutsWord m at noted i) u t other = get_or-set_other c.copies u.0 t _ None other
copies_other app c (EndsRead m at noted i) u t other = get_or-set_other c.copies u.0 t _ None other
copies_other app c (Lapses m noted) u t other = refl

none_some : (copy : Copy) → None ≡ Some copy → ⊥
none_some copy e = cc

writes_reads : (m n : MsgId) (at i at' noted j : ℕ) → Some (Writes m at i) ≡ Some (Reads n at' noted j) → ⊥
writes_reads m n at i at' noted j e = cc

same_read : (m n : MsgId) (at noted i at' noted' j : ℕ) → Some (Reads m at noted (i + 1)) ≡ Some (Reads n at' noted' j)
    → Some (Reads m at noted i) ≡ Some (Reads n at' noted' i)
same_read m n at noted i at' noted' j e = cc

read_message : (m n : MsgId) (at noted i at' noted' j : ℕ) → Some (Reads m at noted i) ≡ Some (Reads n at' noted' j) → m ≡ n
read_message m n at noted i at' noted' j e = cc

read_address : (m n : MsgId) (at noted i at' noted' j : ℕ) → Some (Reads m at noted i) ≡ Some (Reads n at' noted' j) → at ≡ at'
read_address m n at noted i at' noted' j e = cc

read_number : (m n : MsgId) (at noted i at' noted' j : ℕ) → Some (Reads m at noted i) ≡ Some (Reads n at' noted' j) → noted ≡ noted'
read_number m n at noted i at' noted' j e = cc

-- a read begins by its step
starts : (app : App) (c : Counted) (t : TaskId) (kind : StepKind) (m : MsgId) (at : ℕ) → IsOrderly app c → t.0 < length c.plain.tasks
    → move_of app c t.0 ≡ StartsRead m at → kind ≡ kind_of (StartsRead m at) → BeginsRead app c (Stepped t kind) t m at (newest c.plain.values m.0)
unfolding after_move move_line
starts app c t kind m at h inside move k = record {
  begins = ap (Stepped t) k;
  line = λ line says. says ∙ ap (λ mv. move_line app mv t c.plain) move;
  number = refl;
  core =
      ap (λ mv. core_in (after_move app mv t c) t) move
      ∙ ap (λ (k : Task). k.core)
      (flat_here c.plain.values c.plain.tasks (slice_set c.copies t.0 copy) t.0 copy (length-set c.copies t.0 copy ∙ h.copies.count)
      (get_or-set_same c.copies t.0 copy None (subst (λ n. t.0 < n) (sym h.copies.count) inside)))
      ∙ settled_first c.plain.values m at (newest c.plain.values m.0) (task_at c.plain.tasks t.0).core;
}
  where
    copy : Option Copy
    copy = Some (Reads m at (newest c.plain.values m.0) 0)

own_was : (app : App) (c : Counted) (t : TaskId) (kind : StepKind) (m : MsgId) (at noted i : ℕ) → IsOrderly app c → Fits app c (Stepped t kind)
    → copy_at (acted app c (Stepped t kind)).copies t.0 ≡ Some (Reads m at noted i) → Was app c (Stepped t kind) t m at noted
unfolding after_move
own_was app c t kind m at noted i h (selects, k) e = by_copy (copy_at c.copies t.0) refl
  where
    o : Outcome
    o = outcome app.table app.image.words t.0 c.plain

    inside : t.0 < length c.plain.tasks
    inside = (chosen_is app c t.0 h selects).inside

    set : (copy : Option Copy) → copy_at (slice_set c.copies t.0 copy) t.0 ≡ copy
    set copy = get_or-set_same c.copies t.0 copy None (subst (λ n. t.0 < n) (sym h.copies.count) inside)

    after : (move : Move) → move_of app c t.0 ≡ move → copy_at (after_move app move t c).copies t.0 ≡ Some (Reads m at noted i)
    after move is = ap (λ mv. copy_at (after_move app mv t c).copies t.0) (sym is) ∙ e

    -- no copy begins
    still : copy_at c.copies t.0 ≡ None → copy_at c.copies t.0 ≡ Some (Reads m at noted i) → Was app c (Stepped t kind) t m at noted
    still none same = absurd (none_some (Reads m at noted i) (sym none ∙ same))

    -- the copy is over
    over : copy_at (slice_set c.copies t.0 None) t.0 ≡ Some (Reads m at noted i) → Was app c (Stepped t kind) t m at noted
    over same = absurd (none_some (Reads m at noted i) (sym (set None) ∙ same))

    -- the copy is a write
    write : (n : MsgId) (at' j : ℕ) → copy_at (slice_set c.copies t.0 (Some (Writes n at' j))) t.0 ≡ Some (Reads m at noted i)
        → Was app c (Stepped t kind) t m at noted
    write n at' j same = absurd (writes_reads n m at' j at noted i (sym (set (Some (Writes n at' j))) ∙ same))

    begins : (n : MsgId) (at' : ℕ) → move_of app c t.0 ≡ StartsRead n at' → Was app c (Stepped t kind) t m at noted
    begins n at' is =
        let number = newest c.plain.values n.0 in
        let same = sym (set (Some (Reads n at' number 0))) ∙ after (StartsRead n at') is in
        inr
        (subst (λ x. BeginsRead app c (Stepped t kind) t x at noted) (read_message n m at' number 0 at noted i same)
        (subst (λ x. BeginsRead app c (Stepped t kind) t n x noted) (read_address n m at' number 0 at noted i same)
        (subst (λ x. BeginsRead app c (Stepped t kind) t n at' x) (read_number n m at' number 0 at noted i same)
        (starts app c t kind n at' h inside is (k ∙ ap kind_of is)))))

    first : (o : Outcome) → copy_at c.copies t.0 ≡ None → move_of app c t.0 ≡ first_move o → Was app c (Stepped t kind) t m at noted
    first (Works class core shared) none is = still none (after (Acts (Works class core shared)) is)
    first (Falls cause) none is = still none (after (Acts (Falls cause)) is)
    first (Refuses code) none is = still none (after (Acts (Refuses code)) is)
    first Ends none is = still none (after (Acts Ends) is)
    first (Gets s) none is = still none (after (Acts (Gets s)) is)
    first (Blocks s) none is = still none (after (Acts (Blocks s)) is)
    first (Frees s) none is = still none (after (Acts (Frees s)) is)
    first (Puts port word) none is = still none (after (Acts (Puts port word)) is)
    first (Publishes n at' count) none is = write (record { 0 = n }) at' 0 (after (StartsWrite (record { 0 = n }) at') is)
    first (Fetches n at') none is = begins (record { 0 = n }) at' is
    first (Signals u word) none is = still none (after (Acts (Signals u word)) is)
    first Leaves none is = still none (after (Acts Leaves) is)

    write_on : (n : MsgId) (at' j : ℕ) (b : Bool) → move_of app c t.0 ≡ (if b then TakesWord n at' j else EndsWrite n at' j)
        → Was app c (Stepped t kind) t m at noted
    write_on n at' j true is = write n at' (j + 1) (after (TakesWord n at' j) is)
    write_on n at' j false is = over (after (EndsWrite n at' j) is)

    read_on : (n : MsgId) (at' noted' j : ℕ) (b d : Bool) → copy_at c.copies t.0 ≡ Some (Reads n at' noted' j)
        → move_of app c t.0 ≡ (if b then Lapses n noted' else if d then PutsWord n at' noted' j else EndsRead n at' noted' j)
        → Was app c (Stepped t kind) t m at noted
    read_on n at' noted' j true d q is = inl (i, after (Lapses n noted') is)
    read_on n at' noted' j false true q is =
        let copy = Some (Reads n at' noted' (j + 1)) in
        inl (j, q ∙ same_read n m at' noted' j at noted i (sym (set copy) ∙ after (PutsWord n at' noted' j) is))
    read_on n at' noted' j false false q is = over (after (EndsRead n at' noted' j) is)

    move_is : (copy : Option Copy) → copy_at c.copies t.0 ≡ copy → move_of app c t.0 ≡ move_by app.table c.begun o copy
    move_is copy q = ap (move_by app.table c.begun o) q

    by_copy : (copy : Option Copy) → copy_at c.copies t.0 ≡ copy → Was app c (Stepped t kind) t m at noted
    by_copy None q = first o q (move_is None q)
    by_copy (Some (Writes n at' j)) q = write_on n at' j (nat_lt (j + 1) (words_of app.table n.0)) (move_is (Some (Writes n at' j)) q)
    by_copy (Some (Reads n at' noted' j)) q =
        read_on n at' noted' j (nat_le (noted' + depth app.table n.0) (begun_at c.begun n.0)) (nat_lt (j + 1) (words_of app.table n.0)) q
        (move_is (Some (Reads n at' noted' j)) q)

-- by the step
pub was : (app : App) (c : Counted) (what : What) (t : TaskId) (m : MsgId) (at noted i : ℕ) → IsOrderly app c → Fits app c what
    → copy_at (acted app c what).copies t.0 ≡ Some (Reads m at noted i) → Was app c what t m at noted
was app c (Delivered event) t m at noted i h fits e = inl (i, e)
was app c (Stepped u kind) t m at noted i h fits e = by_task (cases_eq t.0 u.0)
  where
    by_task : (t.0 ≡ u.0) ⊎ (t.0 ≢ u.0) → Was app c (Stepped u kind) t m at noted
    by_task (inl same) =
        subst
        (λ v. Fits app c (Stepped v kind) → copy_at (acted app c (Stepped v kind)).copies t.0 ≡ Some (Reads m at noted i)
        → Was app c (Stepped v kind) t m at noted)
        (same_task u t same) (own_was app c t kind m at noted i h) fits e
    by_task (inr other) = inl (i, sym (copies_other app c (move_of app c u.0) u t.0 other) ∙ e)
was app c Idled t m at noted i h fits e = inl (i, e)
was app c (Ended cause) t m at noted i h fits e = inl (i, e)
