-- A text that stands in a place.
use Rattle.std.specs.Prelude.{◌≡◌, ℕ, ◌+◌, ◌≤◌, List, ◌++◌, length, take, drop}

-- the text stands from `start` up to `at`, and all else is as it was before
pub record Stands (before now text : List ℕ) (start at : ℕ) : Type 0 where
  pub ends : at ≡ start + length text
  pub fits : at ≤ length before
  pub place : now ≡ (take start before ++ text) ++ drop at before
