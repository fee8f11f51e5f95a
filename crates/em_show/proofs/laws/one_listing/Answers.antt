use Rattle.em_show.proofs.OneListing.{one-listing, some-listing}
use Rattle.em_show.proofs.laws.one_listing.Goals as goal

pub returns : goal.returns
returns c = record {
  some = some-listing c.one_instruction.ensures.decided;
  same = one-listing c.one_instruction.ensures.same;
}
