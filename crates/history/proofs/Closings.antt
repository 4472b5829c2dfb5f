-- Close and the questions, in the words of the past.
use Rattle.std.proofs.Common.{◌≡◌, ℕ, ◌<◌, ◌≤◌, true, false, List, ◌∷◌, ℤ, sym, refl, subst, inl, inr, ⊎_elim, arith}
use Rattle.std.proofs.lemmas.Bool.{both_ways, cases_Bool}
use Rattle.kinds.specs.Arithmetic.{Arithmetic, Lawful, Inverse}
use Rattle.walks.specs.Bounds.{Within}
use Rattle.walks.specs.Bounds as bounds
use Rattle.walks.specs.Walks.{Loop, UnderZero, Schedule, Told, Window}
use Rattle.walks.specs.Least.{distance, contradictory, window}
use Rattle.walks.proofs.Distances.{contradiction, told}
use Rattle.walks.proofs.Schedules.{no_schedule}
use Rattle.walks.proofs.Windows.{windows}
use Rattle.walks.proofs.Transfer.{reloop, reunder, reschedule, retold, rewindow}
use Rattle.net.specs.declared.mode.Mode.TheVariants.{Open, Closed}
use Rattle.net.specs.State.{State}
use Rattle.net.specs.Closing.{in_mode}
use Rattle.net.proofs.Soundness.{sound_reordered}
use Rattle.history.specs.Deeds.{Deed, accepted, refused}
use Rattle.history.specs.Deeds.Deed.{close}
use Rattle.history.specs.History.{closed, InForce, First, needs}
use Rattle.history.specs.Standing.{Holds, Stands}
use Rattle.history.proofs.Pasts.{same_holds, only}
use Rattle.history.proofs.Steps.{idle_close}

module _ {A : Arithmetic} (law : Lawful A) (past : List Deed) (s : State) (st : Stands A past s) where
  -- the state holds the bounds in force, and no others
  pub held_force : (i j : ℕ) (a : List ℤ) → bounds.InForce s.bounds i j a → InForce A past i j a
  held_force i j a e = subst (Holds A past i j) e (st.holds i j)

  pub force_held : (i j : ℕ) (a : List ℤ) → InForce A past i j a → bounds.InForce s.bounds i j a
  force_held i j a f = only law past i j (st.amounts i j) a (s.bounds i j) (st.holds i j) f

  pub within : Within A s.events s.bounds
  within = record { below = st.sound.within; amounts = st.sound.amounts }

  -- a closed net has no loop under zero
  pub no_loop : closed past ≡ true → (vs : List ℕ) → ¬ (UnderZero A (InForce A past) vs)
  no_loop e vs l = both_ways _ (st.calm e) ((contradiction A law s.events s.bounds within).0.1 (vs, reunder force_held l))

  pub loop_shown : (vs : List ℕ) → Loop A (bounds.InForce s.bounds) vs → Loop A (InForce A past) vs
  loop_shown vs l = reloop held_force l

  -- where the net is closed, the computed distance and window are what they should be
  pub distance_right : closed past ≡ true → (i j : ℕ) → Told A (InForce A past) i j (distance A s.events s.bounds i j)
  distance_right e i j = retold A held_force force_held i j _ ((told A law s.events s.bounds within (st.calm e) i j _).1 refl)

  module _ {minus : List ℤ → List ℤ} (inv : Inverse A minus) where
    pub window_right : closed past ≡ true → (i j : ℕ) → Window A (InForce A past) i j (window A minus s.events s.bounds i j)
    window_right e i j = rewindow A held_force force_held i j _ (windows A law minus inv s.events s.bounds within (st.calm e) i j)

    pub schedule : contradictory A s.events s.bounds ≡ false → Schedule A (InForce A past)
    schedule e = reschedule force_held ((no_schedule A law minus inv s.events s.bounds within).0.0 e)

    pub no_schedule_kept : contradictory A s.events s.bounds ≡ true → ¬ (Schedule A (InForce A past))
    no_schedule_kept e t = (no_schedule A law minus inv s.events s.bounds within).1.0 e (reschedule held_force t)

    -- close, by what it finds
    pub close_short : (cells place : ℕ) → place < s.events → First (needs A cells past (close place)) (refused 5)
    close_short cells place h = let n = st.count in inl ((λ g. absurd (omega arith)), refl)

    pub close_contradicted : (cells place : ℕ) → s.events ≤ place → contradictory A s.events s.bounds ≡ true → First (needs A cells past (close place)) (refused 16) × Stands A past (in_mode Open s)
    close_contradicted cells place h e = let n = st.count in (
      inr ((omega arith), inl (no_schedule_kept e, refl)),
      record {
        sound = sound_reordered A s s.order Open st.sound;
        few = st.few;
        count = st.count;
        mode = ⊎_elim (λ t. absurd (both_ways _ (st.calm t) e)) sym (cases_Bool (closed past));
        amounts = st.amounts;
        holds = st.holds;
        calm = st.calm;
      },
    )

    pub close_done : (cells place : ℕ) → s.events ≤ place → contradictory A s.events s.bounds ≡ false → First (needs A cells past (close place)) accepted × Stands A (close place ∷ past) (in_mode Closed s)
    close_done cells place h e = let n = st.count in (
      (omega arith, (schedule e, tt)),
      record {
        sound = sound_reordered A s s.order Closed st.sound;
        few = st.few;
        count = st.count;
        mode = refl;
        amounts = λ i j w l. st.amounts i j w ((idle_close place past i j w).1 l);
        holds = λ i j. same_holds law past (close place ∷ past) i j (λ w. (idle_close place past i j w).0) (λ w. (idle_close place past i j w).1) (s.bounds i j) (st.holds i j);
        calm = λ t. e;
      },
    )
