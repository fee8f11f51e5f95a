use Rattle.std.proofs.Common.{IfSome, subst, sym}
use Rattle.em_asm_read.specs.Fitting.{MnemonicFits}
use Rattle.em_asm_read.proofs.Listed.{named-fits}
use Rattle.em_asm_read.proofs.mnemonics.mnemonic_named.Goals as goal

pub returns-clause-fits : goal.returns-clause-fits
returns-clause-fits c = subst (λ o. IfSome o MnemonicFits) (sym c.mnemonic_among.ensures) (named-fits c.args.text.now)
