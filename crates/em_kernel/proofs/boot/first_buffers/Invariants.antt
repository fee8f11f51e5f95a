use Rattle.std.proofs.Common.{◌≡◌, ℕ, ◌<◌, length}
use Rattle.em_kernel.specs.Buffers.{IsFirst}
use Rattle.em_kernel.specs.Kept.{buffer_at}
use Rattle.em_kernel.proofs.boot.first_buffers.Given as goal

-- the messages so far have their first buffers
abbrev pub invariant-loop-m : goal.invariant-loop-m
invariant-loop-m l =
    (length l.buffers.items ≡ l.m) × ((m : ℕ) → m < l.m → IsFirst l.table m (buffer_at l.buffers.items m))
