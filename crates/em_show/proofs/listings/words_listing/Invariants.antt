use Rattle.std.proofs.Common.{take, string_bytes}
use Rattle.em_show.specs.Listing.{IsListing}
use Rattle.em_show.proofs.listings.words_listing.Given as goal

-- the text is the listing of the words so far
abbrev pub invariant-loop-place : goal.invariant-loop-place
invariant-loop-place l = IsListing (take l.place l.words) (string_bytes l.text)
