use Rattle.std.proofs.Common.{◌+◌, subst, sym, string_bytes, take}
use Rattle.em_show.specs.Listing.{IsListing}
use Rattle.em_show.proofs.OneLineMore.{listing-next}
use Rattle.em_show.proofs.listings.words_listing.Goals as goal

pub loop-place-preserved : goal.loop-place-preserved
loop-place-preserved c =
    let words = c.args.words.now in
    let i = c.loop-place.place in
    let line = c.in_ok-put_line.ensures in
    subst (IsListing (take (i + 1) words)) (sym line.2) (listing-next words i (string_bytes c.loop-place.text) line.0 c.loop-place-test.true c.loop-place.invariant line.1)
