use Rattle.std.proofs.Common.{◌≡◌, drop}
use Rattle.em_base.specs.Images.{address_of}
use Rattle.em_base.proofs.images.Image.address_of.Given as goal

-- no label so far has the name
abbrev pub invariant-loop-label : goal.invariant-loop-label
invariant-loop-label l = address_of l.self.labels l.name ≡ address_of (drop l.label-index l.self.labels) l.name
