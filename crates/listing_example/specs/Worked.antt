-- A worked sheet: three events and five bounds, without an ordering record.
use Rattle.std.specs.Prelude.{◌≡◌, ℕ, List, [], ◌∷◌, ◌++◌, codes}
use Rattle.listing.specs.Listings.{listing_text}

-- a record of a bound, from its fields; seven bytes of the number that are the same, and its last one
abbrev pub bound_of : (from to : ℕ) → (high low : ℕ) → List ℕ
bound_of from to high low = 0 ∷ 11 ∷ 2 ∷ from ∷ to ∷ high ∷ high ∷ high ∷ high ∷ high ∷ high ∷ high ∷ low ∷ []

-- 0 to 1 at most 100, 1 to 0 at most -40, 1 to 2 at most 50, 2 to 1 at most -10, 0 to 2 at most 200
abbrev pub worked_sheet : List ℕ
worked_sheet = 1 ∷ 0 ∷ 3 ∷ 1 ∷ 3 ∷ 1 ∷ (bound_of 0 1 0 100 ++ (bound_of 1 0 255 216 ++ (bound_of 1 2 0 50 ++ (bound_of 2 1 255 246 ++ bound_of 0 2 0 200))))

abbrev pub worked_text : List ℕ
worked_text = codes "width 2 fill 0 looks 5" ++ (10 ∷ (codes "0 1 40 100" ++ (10 ∷ (codes "0 2 50 150" ++ (10 ∷ (codes "1 2 10 50" ++ (10 ∷ [])))))))

-- the text of the worked sheet, whatever loop is given
abbrev pub WorkedText : Type 0
WorkedText = (loop : List ℕ) → listing_text loop worked_sheet ≡ worked_text
