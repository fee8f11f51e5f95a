use Rattle.std.proofs.Common.{◌≡◌, drop}
use Rattle.em_asm_read.specs.Mnemonics.{among}
use Rattle.em_asm_read.proofs.Listed.{rows_of}
use Rattle.em_asm_read.proofs.mnemonics.mnemonic_among.Given as goal

-- the mnemonic is one of those that are left
abbrev pub invariant-loop-row : goal.invariant-loop-row
invariant-loop-row l = among l.text (rows_of l.rows) ≡ among l.text (rows_of (drop l.row-index l.rows))
