-- What is always so of buffers and copies stays so: what each change of one of them leaves.
use Rattle.std.proofs.Common.{◌≡◌, ◌≢◌, ◌∙◌, ◌⊎◌, inl, inr, ℕ, ◌+◌, ◌-◌, ◌*◌, ◌<◌, ◌≤◌, true, List, length, slice_get, slice_set, Option, None, Some, sym, ap, subst, arith}
use Rattle.std.proofs.lemmas.Bool.{cases_eq, eqb-true, false≢true}
use Rattle.std.proofs.lemmas.List.{get_or-set_same, get_or-set_other, length-set}
use Rattle.em_base.specs.declared.apps.App.{App}
use Rattle.em_base.specs.declared.ids.MsgId.{MsgId}
use Rattle.em_base.specs.declared.tables.MsgRow.{MsgRow}
use Rattle.em_base.specs.declared.tables.Table.{Table}
use Rattle.em_hart.specs.Hart.{Memory, number_in_bytes}
use Rattle.em_gate.specs.Calls.{has_writer, words_of, writes}
use Rattle.em_gate.specs.State.{Copy, Reads, Writes}
use Rattle.em_state.specs.Buffers.{IsResting, Kept as Buffer}
use Rattle.em_system.specs.Asked.{IsInside}
use Rattle.em_system.specs.Held.{Held}
use Rattle.em_system.specs.Windows.{core_in}
use Rattle.em_kernel.specs.Buffers.{IsKept, IsMade, IsTaken, IsWritten}
use Rattle.em_kernel.specs.Kept.{buffer_at, no_buffer}
use Rattle.em_kernel.specs.Moves.{copy_at}

-- ---- writers

one_writer_of : (row : Option MsgRow) (t u : ℕ) → has_writer row t ≡ true → has_writer row u ≡ true → u ≡ t
one_writer_of None t u a b = absurd (false≢true a)
one_writer_of (Some row) t u a b = sym (eqb-true row.writer.0 u b) ∙ eqb-true row.writer.0 t a

-- a message has one writer
pub one_writer : (table : Table) (m t u : ℕ) → writes table t m ≡ true → writes table u m ≡ true → u ≡ t
one_writer table m t u a b = one_writer_of (slice_get table.messages m) t u a b

-- a copy of a message that is none, or another one
pub no_copy : (copy : Copy) → None ≡ Some copy → ⊥
no_copy copy e = cc

pub read_no_write : (m n : MsgId) (at noted done at' done' : ℕ) → Some (Reads m at noted done) ≡ Some (Writes n at' done') → ⊥
read_no_write m n at noted done at' done' e = cc

pub same_message : (m n : MsgId) (at done at' done' : ℕ) → Some (Writes m at done) ≡ Some (Writes n at' done') → n ≡ m
same_message m n at done at' done' e = cc

-- ---- copies that stay

-- a copy of a task whose own window stays
pub kept_held : (held held' : Held) (buffers : List Buffer) (u : ℕ) (copy : Option Copy) → held'.app ≡ held.app
    → (core_in held'.threads u).own ≡ (core_in held.threads u).own → IsKept held buffers u copy → IsKept held' buffers u copy
kept_held held held' buffers u None ea eo k = tt
kept_held held held' buffers u (Some (Writes m at done)) ea eo k = record {
  inside = subst (λ (a : App). IsInside a.table m.0 at) (sym ea) k.inside;
  writes = ap (λ (a : App). writes a.table u m.0) ea ∙ k.writes;
  more = subst (λ (a : App). done < words_of a.table m.0) (sym ea) k.more;
  taken = record {
    writing = k.taken.writing;
    draft = k.taken.draft;
    put = k.taken.put;
    marked = k.taken.marked;
    same = λ j l. k.taken.same j l ∙ ap (λ (own : Memory). number_in_bytes own.bytes 4 (at - own.base + 4 * j)) (sym eo);
  };
}
kept_held held held' buffers u (Some (Reads m at noted done)) ea eo k = record {
  inside = subst (λ (a : App). IsInside a.table m.0 at) (sym ea) k.inside;
  more = subst (λ (a : App). done < words_of a.table m.0) (sym ea) k.more;
  published = k.published;
}

-- the newest value of a message after one buffer was changed, whose own newest doesn't fall
newest_after : (buffers : List Buffer) (m : ℕ) (b : Buffer) (n noted : ℕ) → m < length buffers → (buffer_at buffers m).newest ≤ b.newest
    → noted ≤ (buffer_at buffers n).newest → noted ≤ (buffer_at (slice_set buffers m b) n).newest
newest_after buffers m b n noted h rises l = elim (cases_eq n m) as (λ _. noted ≤ (buffer_at (slice_set buffers m b) n).newest) [
  | inl e ↦ subst (λ (after : Buffer). noted ≤ after.newest) (sym (ap (λ k. buffer_at (slice_set buffers m b) k) e ∙ get_or-set_same buffers m b no_buffer h))
      (omega (arith, rises, subst (λ k. noted ≤ (buffer_at buffers k).newest) e l))
  | inr other ↦ subst (λ (after : Buffer). noted ≤ after.newest) (sym (get_or-set_other buffers m n b no_buffer other)) l
]

-- a copy of a task that doesn't write the message of the buffer that was changed
pub kept_buffer : (held : Held) (buffers : List Buffer) (m : ℕ) (b : Buffer) (u : ℕ) (copy : Option Copy) → m < length buffers
    → (buffer_at buffers m).newest ≤ b.newest → (writes held.app.table u m ≡ true → ⊥)
    → IsKept held buffers u copy → IsKept held (slice_set buffers m b) u copy
kept_buffer held buffers m b u None h rises reader k = tt
kept_buffer held buffers m b u (Some (Writes n at done)) h rises reader k =
    let other : n.0 ≢ m = λ e. reader (subst (λ i. writes held.app.table u i ≡ true) e k.writes) in
    record {
      inside = k.inside;
      writes = k.writes;
      more = k.more;
      taken = subst (IsTaken (core_in held.threads u) at done) (sym (get_or-set_other buffers m n.0 b no_buffer other)) k.taken;
    }
kept_buffer held buffers m b u (Some (Reads n at noted done)) h rises reader k = record {
  inside = k.inside;
  more = k.more;
  published = newest_after buffers m b n.0 noted h rises k.published;
}

-- ---- messages that rest

-- after one buffer and one copy were changed
pub rests_after : (table : Table) (buffers : List Buffer) (m : ℕ) (b : Buffer) (copies copies' : List (Option Copy)) (t : ℕ)
    → m < length buffers → IsResting b ⊎ IsWritten table copies' m
    → ((n at done : ℕ) → n ≢ m → copy_at copies t ≡ Some (Writes (record { 0 = n }) at done) → ⊥)
    → ((u : ℕ) → u ≢ t → copy_at copies' u ≡ copy_at copies u)
    → ((n : ℕ) → n < length buffers → IsResting (buffer_at buffers n) ⊎ IsWritten table copies n)
    → (n : ℕ) → n < length (slice_set buffers m b) → IsResting (buffer_at (slice_set buffers m b) n) ⊎ IsWritten table copies' n
rests_after table buffers m b copies copies' t h here gone others rests n l = by_message (cases_eq n m)
  where
    Rests : ℕ → Buffer → Type 0
    Rests k buffer = IsResting buffer ⊎ IsWritten table copies' k

    written : n ≢ m → IsWritten table copies n → IsWritten table copies' n
    written other (u, at, done, w, e) = elim (cases_eq u t) as (λ _. IsWritten table copies' n) [
      | inl same ↦ absurd (gone n at done other (ap (copy_at copies) (sym same) ∙ e))
      | inr n ↦ (u, at, done, w, others u n ∙ e)
    ]

    elsewhere : n ≢ m → Rests n (buffer_at buffers n)
    elsewhere other = elim (rests n (subst (λ k. n < k) (length-set buffers m b) l)) as (λ _. Rests n (buffer_at buffers n)) [
      | inl rest ↦ inl rest
      | inr w ↦ inr (written other w)
    ]

    by_message : (n ≡ m) ⊎ (n ≢ m) → Rests n (buffer_at (slice_set buffers m b) n)
    by_message (inl e) = subst (λ k. Rests k (buffer_at (slice_set buffers m b) k)) (sym e) (subst (Rests m) (sym (get_or-set_same buffers m b no_buffer h)) here)
    by_message (inr other) = subst (Rests n) (sym (get_or-set_other buffers m n b no_buffer other)) (elsewhere other)

-- after one copy was changed that was no write
pub rests_same : (table : Table) (buffers : List Buffer) (copies copies' : List (Option Copy)) (t : ℕ)
    → ((n : MsgId) (at done : ℕ) → copy_at copies t ≡ Some (Writes n at done) → ⊥)
    → ((u : ℕ) → u ≢ t → copy_at copies' u ≡ copy_at copies u)
    → ((n : ℕ) → n < length buffers → IsResting (buffer_at buffers n) ⊎ IsWritten table copies n)
    → (n : ℕ) → n < length buffers → IsResting (buffer_at buffers n) ⊎ IsWritten table copies' n
rests_same table buffers copies copies' t gone others rests n l = elim (rests n l) as (λ _. IsResting (buffer_at buffers n) ⊎ IsWritten table copies' n) [
  | inl rest ↦ inl rest
  | inr (u, at, done, w, e) ↦ inr (u, at, done, w, others u (λ same. gone (record { 0 = n }) at done (ap (copy_at copies) (sym same) ∙ e)) ∙ e)
]

-- ---- buffers that are made

-- a buffer stays made as the lines grow more
pub made_more : (table : Table) (m : ℕ) (b : Buffer) (count count' : ℕ) → count ≤ count' → IsMade table m b count → IsMade table m b count'
made_more table m b count count' l made =
    record { some = made.some; few = made.few; words = made.words; depth = made.depth; early = omega (arith, l, made.early) }

-- and after one buffer was changed
pub made_after : (table : Table) (buffers : List Buffer) (m : ℕ) (b : Buffer) (count count' : ℕ) → m < length buffers → count ≤ count'
    → IsMade table m b count' → ((n : ℕ) → n < length buffers → IsMade table n (buffer_at buffers n) count)
    → (n : ℕ) → n < length (slice_set buffers m b) → IsMade table n (buffer_at (slice_set buffers m b) n) count'
made_after table buffers m b count count' h le here made n l = elim (cases_eq n m) as (λ _. IsMade table n (buffer_at (slice_set buffers m b) n) count') [
  | inl e ↦ subst (λ k. IsMade table k (buffer_at (slice_set buffers m b) k) count') (sym e)
      (subst (λ after. IsMade table m after count') (sym (get_or-set_same buffers m b no_buffer h)) here)
  | inr other ↦ subst (λ after. IsMade table n after count') (sym (get_or-set_other buffers m n b no_buffer other))
      (made_more table n (buffer_at buffers n) count count' le (made n (subst (λ k. n < k) (length-set buffers m b) l)))
]
