-- A call, and a list of calls, on a net in a state that stands to its past.
use Rattle.std.specs.Prelude.{◌≡◌, ℕ, List, map, reverse, take, drop}
use Rattle.net.specs.Limits.{most_events}
use Rattle.net.specs.State.{State}
use Rattle.sheet.specs.Records.{Coding}
use Rattle.history.specs.Deeds.{Deed, Action, Answer}
use Rattle.history.specs.History.{Calm, Step, History, noted, Uncontradicted}
use Rattle.history.specs.Standing.{Stands}
use Rattle.history.specs.SheetCalls.{sheet_of}
use Rattle.history.specs.Notes.{Note, in_short, Noting, Course}

module _ (K : Coding) (cells : ℕ) where
  -- a call, its note, and the places before and after it; and the state after it, which stands to the past with the call
  abbrev pub Taken : (past : List Deed) → Action → Note → (before after : List ℕ) → State → Type 0
  Taken past c note before after t = (past_after : List Deed) × Step K.arithmetic (sheet_of K) cells past c (in_short note) past_after × Noting K cells past before c note after × Stands K.arithmetic past_after t

  -- the same after each past that the state before it stands to
  abbrev pub Takes : Action → Note → (before after : List ℕ) → State → State → Type 0
  Takes c note before after s t = (past : List Deed) → Stands K.arithmetic past s → Taken past c note before after t

  -- a net just made, after these actions, whose answers were noted in slots and whose loops were shown in a place
  pub record Ran {T : Type 0} (actions : List Action) (note_of : T → Note) (slots slots_after : List T) (lent place : List ℕ) (s : State) : Type 0 where
    pub notes : List T
    pub past : List Deed
    pub course : Course K cells lent (reverse actions) (map note_of notes) past place
    pub told : slots_after ≡ noted (reverse notes) slots
    pub rest : drop most_events place ≡ drop most_events lent
    pub unwritten : Uncontradicted (map (λ x. in_short (note_of x)) notes) → place ≡ lent
    pub calm : (k : ℕ) (xs : List Answer) (p : List Deed) → History K.arithmetic (sheet_of K) cells (reverse (take k actions)) xs p → Calm K.arithmetic p
    pub stands : Stands K.arithmetic past s
