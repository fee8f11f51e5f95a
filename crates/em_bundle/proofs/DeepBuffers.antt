-- Whether the buffer of a message is too deep, message by message.
use Rattle.std.proofs.Common.{◌≡◌, ℕ, zero, suc, ◌+◌, ◌<◌, ◌≤◌, ◌⊎◌, length, inl, inr, subst, arith}
use Rattle.std.proofs.lemmas.Bool.{cases_lt}
use Rattle.em_base.specs.declared.tables.Table.{Table}
use Rattle.em_admit.specs.Depth.{AreShallow, depth, most_values}
use Rattle.em_bundle.specs.Application.{HasDeepBuffer}

-- no buffer of the first n messages is
abbrev pub AreShallowTo : Table → ℕ → Type 0
AreShallowTo table n = (m : ℕ) → m < n → depth table m ≤ most_values

-- nor of one more
pub one_more : (table : Table) (n : ℕ) → AreShallowTo table n → depth table n ≤ most_values → AreShallowTo table (n + 1)
one_more table n shallow few m h = elim (cases_lt m n) [
  | inl before ↦ shallow m before
  | inr other ↦ (let same : n ≡ m = omega (arith, h, other) in subst (λ k. depth table k ≤ most_values) same few)
]

-- a buffer of the first n messages is, or none
some_or_none : (table : Table) (n : ℕ) → n ≤ length table.messages → HasDeepBuffer table ⊎ AreShallowTo table n
some_or_none table zero h = inr (λ m before. absurd (omega (arith, before)))
some_or_none table (suc n) h = elim (some_or_none table n (omega (arith, h))) [
  | inl buffer ↦ inl buffer
  | inr shallow ↦ elim (cases_lt most_values (depth table n)) [
    | inl deep ↦ inl record { m = n; here = omega (arith, h); deep = deep }
    | inr few ↦ inr (subst (AreShallowTo table) (omega arith) (one_more table n shallow (omega (arith, few))))
  ]
]

-- a buffer of a table is too deep, or none is
pub deep_or_shallow : (table : Table) → HasDeepBuffer table ⊎ AreShallow table
deep_or_shallow table = some_or_none table (length table.messages) (omega arith)

-- and never both
pub deep_not_shallow : (table : Table) → HasDeepBuffer table → AreShallow table → ⊥
deep_not_shallow table buffer shallow = absurd (omega (arith, buffer.deep, shallow buffer.m buffer.here))
