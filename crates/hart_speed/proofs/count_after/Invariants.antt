use Rattle.std.proofs.Common.{◌≡◌, length}
use Rattle.hart_speed.proofs.count_after.Given as goal

-- the windows stay where they are
abbrev pub invariant-loop : goal.invariant-loop
invariant-loop l = record { own : l.own.base ≡ 0x10000000; shared : l.shared.base ≡ 0x20000000; room : length l.own.bytes ≡ 64 }
