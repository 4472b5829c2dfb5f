-- What a host gets for a sheet and a place.
use Rattle.std.specs.Prelude.{◌≡◌, cond, List, ◌++◌, ℕ, ◌≤◌, leb, ℤ, pos, negsuc, length, drop}
use Rattle.listing.specs.Listings.{shortest_place, sheet_read, listing_text, SheetLoop}

-- the length of the sheet's text, which stands at the front of the place with the rest as it was, or -5 and the place as it was
pub record Handed (sheet before now : List ℕ) (answer : ℤ) : Type 0 where
  pub loop : List ℕ
  pub shown : shortest_place ≤ length before → SheetLoop loop (sheet_read sheet).answer (sheet_read sheet).after
  pub told : answer ≡ cond (leb shortest_place (length before)) (pos (length (listing_text loop sheet))) (negsuc 4)
  pub place : now ≡ cond (leb shortest_place (length before)) (listing_text loop sheet ++ drop (length (listing_text loop sheet)) before) before
