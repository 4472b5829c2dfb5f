-- The ordering laid down byte by byte.
use Rattle.std.proofs.Common.{◌≡◌, ℕ, zero, suc, ◌+◌, ◌-◌, ◌<◌, ◌≤◌, ◌&&◌, ltb, leb, List, [], ◌∷◌, ◌++◌, length, get_or, take, drop, set, Some, None, Ok, sym, ap, ◌∙◌, add_comm, arith}
use borrow.Rule.Slice.PartMut.{put_mid}
use Rattle.std.proofs.lemmas.Bool.{cond-true, and_from, lt-ltb, le-leb}
use Rattle.std.proofs.lemmas.List.{append_assoc, append-nil, length-take, length-drop, take_all, drop_all, drop-drop, drop_more, take_more, set-append_right}
use Rattle.order.specs.declared.event_order.EventOrder.{EventOrder}
use Rattle.order.specs.Orderings.{events_of, event_of_rank, arranged}
use Rattle.order.proofs.Orders.{events_count, events_within, events_differ}
use Rattle.order.proofs.Faults.{Sound as SoundUpto, sound_starts, sound_more, sound_ends, arranged_by}
use Rattle.sheet.specs.Written.{length_bytes, ordering_record}

-- the event of a rank, counted from 0
pub ranked : (o : EventOrder) (rank : ℕ) → rank < o.count → event_of_rank (events_of o) (rank + 1) ≡ Some (get_or (events_of o) rank 0)
ranked o rank h =
    let l = events_count o in
    let t = and_from (ltb 0 (rank + 1)) (leb (rank + 1) (length (events_of o))) (lt-ltb 0 (rank + 1) (omega arith)) (le-leb (rank + 1) (length (events_of o)) (omega arith)) in
    let e : rank + 1 - 1 ≡ rank = omega arith in
    cond-true (ltb 0 (rank + 1) && leb (rank + 1) (length (events_of o))) (Some (get_or (events_of o) (rank + 1 - 1) 0)) None t ∙ ap (λ k. Some (get_or (events_of o) k 0)) e

-- one event more after those that stand at the front
pub order_turn : (order zs xs : List ℕ) (r v : ℕ) → r < length order → r < length zs → xs ≡ take r order ++ drop r zs → v ≡ get_or order r 0 → set xs r v ≡ take (r + 1) order ++ drop (r + 1) zs
order_turn order zs xs r v h k e p =
    let l : length (take r order) ≡ r = simp length-take (omega arith) in
    let z : r - r ≡ 0 = omega arith in
    ap (λ ys. set ys r v) e
    ∙ set-append_right (take r order) (drop r zs) r r v l (omega arith)
    ∙ ap (λ m. take r order ++ set (drop r zs) m v) z
    ∙ ap (λ ys. take r order ++ set ys 0 v) (drop_more zs r 0 k)
    ∙ ap (λ x. take r order ++ (x ∷ drop (r + 1) zs)) p
    ∙ sym (append_assoc (take r order) (get_or order r 0 ∷ []) (drop (r + 1) zs))
    ∙ ap (λ ys. ys ++ drop (r + 1) zs) (sym (take_more order r 0 h))

-- all events stand after the head
pub order_done : (xs zs order events : List ℕ) (m n r : ℕ) → xs ≡ length_bytes (m + 1) ++ (3 ∷ drop 3 zs) → m ≡ n → length order ≡ n → n + 3 ≤ length zs → events ≡ take r order ++ drop r (take (m + 3 - 3) (drop 3 xs)) → length (take (m + 3 - 3) (drop 3 xs)) ≤ r → put_mid 3 (m + 3 - 3) xs events ≡ ordering_record order ++ drop (n + 3) zs
order_done xs zs order events m n r e p l f h k =
    let x : length xs ≡ length zs = ap length e ∙ simp length-drop (omega arith) in
    let j : n ≤ r = (let a = simp (length-take, length-drop) at k in omega arith) in
    let q : events ≡ order = h ∙ ap (λ ys. ys ++ drop r (take (m + 3 - 3) (drop 3 xs))) (take_all r order (omega arith)) ∙ ap (λ ys. order ++ ys) (drop_all r (take (m + 3 - 3) (drop 3 xs)) k) ∙ append-nil order in
    let d : drop (n + 3) xs ≡ drop (n + 3) zs = ap (λ j. drop j xs) (add_comm n 3) ∙ sym (drop-drop n 3 xs) ∙ ap (λ ys. drop n (drop 3 ys)) e ∙ drop-drop n 3 zs ∙ ap (λ j. drop j zs) (add_comm 3 n) in
    let t : take 3 xs ≡ length_bytes (length order + 1) ++ (3 ∷ []) = ap (take 3) e ∙ ap (λ j. length_bytes (j + 1) ++ (3 ∷ [])) (p ∙ sym l) in
    let w : 3 + (m + 3 - 3) ≡ n + 3 = omega arith in
    simp (q, t) (ap (λ ys. ordering_record order ++ ys) (drop-drop (m + 3 - 3) 3 xs ∙ ap (λ j. drop j xs) w ∙ d))

-- an ordering is arranged as it is
sound_upto : (o : EventOrder) (k : ℕ) → k ≤ o.count → SoundUpto o.count (events_of o) k
sound_upto o zero h = sound_starts o.count (events_of o) (events_count o)
sound_upto o (suc k) h =
    sound_more o.count (events_of o) k (omega arith) (events_within o k (omega arith)) (λ q l e. let d = events_differ o q k (omega arith) (omega arith) e in omega arith) (sound_upto o k (omega arith))

pub arranged_itself : (o : EventOrder) → arranged o.count (events_of o) ≡ Ok (events_of o)
arranged_itself o = arranged_by o.count (events_of o) None o.fits (events_count o) (sound_ends o.count o.count (events_of o) (omega arith) (sound_upto o o.count (omega arith)))
