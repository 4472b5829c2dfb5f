-- How the state of a net stands to its past.
use Rattle.std.specs.Prelude.{◌≡◌, ℕ, ◌<◌, ◌≤◌, true, false, ◌⊎◌, List, [], ◌∷◌, ◌++◌, length, drop, ℤ, Some, None, Ok, Err, Option, Result}
use Rattle.kinds.specs.Arithmetic.{Arithmetic, Amount}
use Rattle.walks.specs.Bounds as bounds
use Rattle.walks.specs.Walks.{Loop}
use Rattle.walks.specs.Least.{contradictory}
use Rattle.net.specs.declared.mode.Mode.TheVariants.{Open, Closed}
use Rattle.net.specs.Limits.{most_events}
use Rattle.net.specs.Refusals.{Reason, by}
use Rattle.net.specs.State.{State, Sound}
use Rattle.net.specs.Closing.{in_mode}
use Rattle.net.specs.Told.{shut}
use Rattle.history.specs.Deeds.{Deed, Answer, accepted, refused}
use Rattle.history.specs.History.{events, closed, Laid, InForce}

-- how a call ended, by its answer
abbrev pub ended : {T : Type 0} → Result T Reason → Answer
ended (Ok x) = accepted
ended (Err e) = refused e.number

-- the past with one call more, unless it was refused
abbrev pub counted : Answer → Deed → List Deed → List Deed
counted None d past = d ∷ past
counted (Some number) d past = past

-- a contradiction whose loop has so many events
abbrev pub contradiction : ℕ → Reason
contradiction m = record { number = 16; values = m ∷ [] }

module _ (A : Arithmetic) where
  -- a close with so many bytes of a place, by the states and the places before and after it
  abbrev pub Closes : {T : Type 0} → (bytes : ℕ) → State → State → (before after : List ℕ) → Result T Reason → Type 0
  Closes bytes s t before after (Ok x) = (s.events ≤ bytes) × (contradictory A s.events s.bounds ≡ false) × (t ≡ in_mode Closed s) × (after ≡ before)
  Closes bytes s t before after (Err e) =
      ((e ≡ by 5) × (bytes < s.events) × (t ≡ s) × (after ≡ before)) ⊎
      ((loop : List ℕ) × (e ≡ contradiction (length loop)) × (s.events ≤ bytes) × (contradictory A s.events s.bounds ≡ true) × (t ≡ in_mode Open s) × (length loop ≤ s.events) × Loop A (bounds.InForce s.bounds) loop × (after ≡ loop ++ drop (length loop) before))

  -- this is the bound in force from i to j, or there is none
  abbrev pub Holds : List Deed → ℕ → ℕ → Option (List ℤ) → Type 0
  Holds past i j None = (w : List ℤ) → ¬ (Laid past i j w)
  Holds past i j (Some w) = InForce A past i j w

  pub record Stands (past : List Deed) (s : State) : Type 0 where
    pub sound : Sound A s
    pub few : s.events ≤ most_events
    pub count : s.events ≡ events past
    pub mode : shut s.mode ≡ closed past
    pub amounts : (i j : ℕ) (w : List ℤ) → Laid past i j w → Amount A w
    pub holds : (i j : ℕ) → Holds past i j (s.bounds i j)
    pub calm : closed past ≡ true → contradictory A s.events s.bounds ≡ false
