use Rattle.std.proofs.Common.{◌∙◌, ap, slice_set}
use Rattle.std.specs.Option.{option_map}
use Rattle.std.proofs.lemmas.List.{map-set}
use Rattle.em_kernel.specs.Copyings.{copies_of, copy_of}
use Rattle.em_kernel.proofs.copies.set_copy.Goals as goal

pub returns : goal.returns
returns c =
    map-set (option_map copy_of) c.args.copies.now.items c.from.result c.args.copy
    ∙ ap (λ t. slice_set (copies_of c.args.copies.now.items) t (option_map copy_of c.args.copy)) c.from.ensures
