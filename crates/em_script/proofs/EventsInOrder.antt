-- Events stay in order with one more at their end that isn't before the last; and which is the last.
use Rattle.std.proofs.Common.{◌≡◌, suc, ◌-◌, ◌≤◌, List, [], ◌∷◌, ◌++◌, length, Some, None, refl, ap, ◌∙◌, arith}
use Rattle.std.specs.List.{slice_get}
use Rattle.em_base.specs.declared.events.Timed.{Timed}
use Rattle.em_base.specs.Events.{AreInOrder}
use Rattle.em_script.specs.Script.{last_time}

last_place : (x y : Timed) (events : List Timed) → length (x ∷ y ∷ events) - 1 ≡ suc (length (y ∷ events) - 1)
last_place x y events = omega arith

-- the time of the last event is that of the event at the last place
pub last-some : (events : List Timed) (event : Timed) → Some event ≡ slice_get events (length events - 1) → event.time ≡ last_time events
unfolding last_time
last-some [] event e = absurd (cc)
last-some (x ∷ []) event e =
    let k : Some event ≡ Some x = e in
    let same : event ≡ x = cc in
    ap (λ t. t.time) same
last-some (x ∷ y ∷ events) event e = last-some (y ∷ events) event (e ∙ ap (slice_get (x ∷ y ∷ events)) (last_place x y events))

-- and 0 where there is none
pub last-none : (events : List Timed) → None ≡ slice_get events (length events - 1) → 0 ≡ last_time events
unfolding last_time
last-none [] e = refl
last-none (x ∷ []) e =
    let k : None ≡ Some x = e in
    absurd (cc)
last-none (x ∷ y ∷ events) e = last-none (y ∷ events) (e ∙ ap (slice_get (x ∷ y ∷ events)) (last_place x y events))

order-after : (x : Timed) (events : List Timed) (event : Timed) → AreInOrder x.time events → last_time (x ∷ events) ≤ event.time
    → AreInOrder x.time (events ++ event ∷ [])
unfolding last_time
order-after x [] event order late = (late, tt)
order-after x (y ∷ events) event order late = (order.0, order-after y events event order.1 late)

-- events in order stay so with one more that isn't before the last
pub order-push : (events : List Timed) (event : Timed) → AreInOrder 0 events → last_time events ≤ event.time → AreInOrder 0 (events ++ event ∷ [])
unfolding last_time
order-push [] event order late = (omega arith, tt)
order-push (x ∷ events) event order late = (order.0, order-after x events event order.1 late)
