-- The copies that a kernel keeps, as a state has them.
use Rattle.std.specs.Prelude.{List, Option, map}
use Rattle.std.specs.Option.{option_map}
use Rattle.em_gate.specs.State.{Copy, Reads, Writes}
use Rattle.em_kernel.specs.declared.copies.Copying.{Copying}
use Rattle.em_kernel.specs.declared.copies.Copying.TheVariants.{Write, Read}

abbrev pub copy_of : Copying → Copy
copy_of (Write m at i) = Writes m at i
copy_of (Read m at noted i) = Reads m at noted i

abbrev pub copies_of : List (Option Copying) → List (Option Copy)
copies_of copies = map (option_map copy_of) copies
