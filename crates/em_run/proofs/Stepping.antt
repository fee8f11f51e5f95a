-- How a run goes on, step by step.
use Rattle.std.proofs.Common.{◌≡◌, ℕ, suc, ◌+◌, ◌-◌, ◌<◌, ◌≤◌, Bool, true, false, nat_le, if◌then◌else◌, List, [], ◌∷◌, ◌++◌, length, Option, None, Some, refl, sym, ap, subst, ◌∙◌, append_assoc, length-append, arith}
use Rattle.std.proofs.lemmas.Grind.{flat_map-append}
use Rattle.std.proofs.lemmas.List.Sums.{sum_by-append}
use Rattle.em_base.specs.declared.apps.App.{App}
use Rattle.em_base.specs.declared.events.Timed.{Timed}
use Rattle.em_base.specs.declared.ids.TaskId.{TaskId}
use Rattle.em_ports.specs.Ports.{Places}
use Rattle.em_trace.specs.declared.lines.Line.{Line}
use Rattle.em_gate.specs.State.{Counted, most_lines}
use Rattle.em_gate.specs.Effects.{option_list}
use Rattle.em_gate.specs.Selecting.{counted_selected}
use Rattle.em_kernel.specs.declared.did.Did.{Did}
use Rattle.em_kernel.specs.declared.did.End.{End}
use Rattle.em_kernel.specs.declared.did.End.TheVariants.{Horizon, Lines}
use Rattle.em_kernel.specs.declared.did.What.{What}
use Rattle.em_kernel.specs.declared.did.What.TheVariants.{Delivered, Stepped, Idled, Ended}
use Rattle.em_kernel.specs.Kept.{Kept, Stands, kept_fuel}
use Rattle.em_kernel.specs.Run.{counted_boot, fuel, is_end, run_end, run_steps, state_from, steps_from}
use Rattle.em_kernel.specs.Moves.{Acts, EndsRead, EndsWrite, Lapses, Move, PutsWord, StartsRead, StartsWrite, TakesWord, move_of}
use Rattle.em_kernel.specs.Step.{chosen, delivered, ended, next, step, stepped_by, waited}
use Rattle.em_sched.specs.Image.{Image, image_after, image_beside, image_boot, image_from, schedule_of, scheduled}
use Rattle.em_sched.specs.Traces.{lines_in}
use Rattle.em_run.specs.Runs.{cause_in, cause_of, or_cause, switches_in}

-- ---- what one step tells

-- the clock that a step tells is that of the state after it
pub same_clock : (app : App) (c : Counted) → (step app c).did.clock ≡ (step app c).state.clock
same_clock app c = by_tests (nat_le app.table.horizon c.clock) (nat_le most_lines (length c.plain.lines))
  where
    of_waited : (left : List Timed) → (waited c left).did.clock ≡ (waited c left).state.clock
    of_waited [] = refl
    of_waited (event ∷ rest) = refl

    of_move : (t : TaskId) (move : Move) → (stepped_by app c t move).did.clock ≡ (stepped_by app c t move).state.clock
    of_move t (Acts o) = refl
    of_move t (StartsWrite m at) = refl
    of_move t (TakesWord m at done) = refl
    of_move t (EndsWrite m at done) = refl
    of_move t (StartsRead m at) = refl
    of_move t (PutsWord m at noted done) = refl
    of_move t (EndsRead m at noted done) = refl
    of_move t (Lapses m noted) = refl

    of_chosen : (selected : Option ℕ) → (chosen app c selected).did.clock ≡ (chosen app c selected).state.clock
    of_chosen (Some t) = of_move (record { 0 = t }) (move_of app c t)
    of_chosen None = of_waited c.left

    of_due : (event : Timed) (rest : List Timed) (due : Bool)
        → (let s = if due then delivered app c event.event rest else chosen app c (counted_selected app.table.tasks c) in s.did.clock ≡ s.state.clock)
    of_due event rest true = refl
    of_due event rest false = of_chosen (counted_selected app.table.tasks c)

    of_next : (left : List Timed) → (next app c left).did.clock ≡ (next app c left).state.clock
    of_next [] = of_chosen (counted_selected app.table.tasks c)
    of_next (event ∷ rest) = of_due event rest (nat_le event.time c.clock)

    by_tests : (over full : Bool)
        → (let s = if over then ended c Horizon else if full then ended c Lines else next app c c.left in s.did.clock ≡ s.state.clock)
    by_tests true full = refl
    by_tests false true = refl
    by_tests false false = of_next c.left

-- a step that doesn't end the run has no cause of an end
no_cause : (what : What) → is_end what ≡ false → cause_of what ≡ None
no_cause (Delivered event) e = refl
no_cause (Stepped t kind) e = refl
no_cause Idled e = refl
no_cause (Ended cause) e = absurd (cc)

-- the image after the next step
abbrev pub next_image : App → Counted → Image → Image
next_image app c image = image_after app c (step app c).state (step app c).did.what image

-- ---- many steps

-- where a step doesn't end the run, it goes on from the state after it
steps-more : (app : App) (k : ℕ) (c : Counted) → is_end (step app c).did.what ≡ false
    → steps_from app (suc k) c ≡ (step app c).did ∷ steps_from app k (step app c).state
unfolding steps_from
steps-more app k c e = ap (λ b. if b then (step app c).did ∷ [] else (step app c).did ∷ steps_from app k (step app c).state) e

steps-last : (app : App) (k : ℕ) (c : Counted) → is_end (step app c).did.what ≡ true → steps_from app (suc k) c ≡ (step app c).did ∷ []
unfolding steps_from
steps-last app k c e = ap (λ b. if b then (step app c).did ∷ [] else (step app c).did ∷ steps_from app k (step app c).state) e

state-more : (app : App) (k : ℕ) (c : Counted) → is_end (step app c).did.what ≡ false
    → state_from app (suc k) c ≡ state_from app k (step app c).state
unfolding state_from
state-more app k c e = ap (λ b. if b then (step app c).state else state_from app k (step app c).state) e

state-last : (app : App) (k : ℕ) (c : Counted) → is_end (step app c).did.what ≡ true → state_from app (suc k) c ≡ (step app c).state
unfolding state_from
state-last app k c e = ap (λ b. if b then (step app c).state else state_from app k (step app c).state) e

image-more : (app : App) (k : ℕ) (c : Counted) (image : Image) → is_end (step app c).did.what ≡ false
    → image_from app (suc k) c image ≡ image_from app k (step app c).state (next_image app c image)
unfolding image_from
image-more app k c image e = ap (λ b. if b then next_image app c image else image_from app k (step app c).state (next_image app c image)) e

image-last : (app : App) (k : ℕ) (c : Counted) (image : Image) → is_end (step app c).did.what ≡ true
    → image_from app (suc k) c image ≡ next_image app c image
unfolding image_from
image-last app k c image e = ap (λ b. if b then next_image app c image else image_from app k (step app c).state (next_image app c image)) e

image-none : (app : App) (c : Counted) (image : Image) → image_from app 0 c image ≡ image
unfolding image_from
image-none app c image = refl

pub state-none : (app : App) (c : Counted) → state_from app 0 c ≡ c
unfolding state_from
state-none app c = refl

-- ---- steps one after the other

-- a number that goes up by one where a test passes
abbrev pub counted_up : Bool → ℕ → ℕ
counted_up b n = if b then n + 1 else n

lines-append : (xs ys : List Did) → lines_in (xs ++ ys) ≡ lines_in xs ++ lines_in ys
lines-append xs ys = flat_map-append (λ did. option_list did.line) xs ys

lines-one : (xs : List Did) (did : Did) → lines_in (xs ++ did ∷ []) ≡ lines_in xs ++ option_list did.line
lines-one xs did = lines-append xs (did ∷ []) ∙ ap (λ ls. lines_in xs ++ ls) (one (option_list did.line))
  where
    one : (ls : List Line) → ls ++ [] ≡ ls
    one [] = refl
    one (l ∷ ls) = ap (λ rest. l ∷ rest) (one ls)

switches-one : (xs : List Did) (did : Did) → switches_in (xs ++ did ∷ []) ≡ counted_up did.switched (switches_in xs)
switches-one xs did = sum_by-append (λ (d : Did). if d.switched then 1 else 0) xs (did ∷ []) ∙ by_test (switches_in xs) did.switched
  where
    by_test : (n : ℕ) (b : Bool) → n + (0 + (if b then 1 else 0)) ≡ counted_up b n
    by_test n true = omega arith
    by_test n false = omega arith

cause-append : (xs ys : List Did) → cause_in (xs ++ ys) ≡ or_cause (cause_in xs) (cause_in ys)
cause-append [] ys = refl
cause-append (x ∷ xs) ys = ap (or_cause (cause_of x.what)) (cause-append xs ys) ∙ assoc (cause_of x.what) (cause_in xs) (cause_in ys)
  where
    assoc : (a b c : Option End) → or_cause a (or_cause b c) ≡ or_cause (or_cause a b) c
    assoc None b c = refl
    assoc (Some cause) b c = refl

cause-one : (xs : List Did) (did : Did) → cause_in xs ≡ None → cause_in (xs ++ did ∷ []) ≡ cause_of did.what
cause-one xs did e = cause-append xs (did ∷ []) ∙ ap (λ a. or_cause a (or_cause (cause_of did.what) None)) e ∙ or-none (cause_of did.what)
  where
    or-none : (a : Option End) → or_cause a None ≡ a
    or-none None = refl
    or-none (Some cause) = refl

-- ---- where a run stands

-- a run has come to a state with these lines and this number of switches, and none of its steps has ended it
pub record Come (app : App) (places : Places) (lines : List Line) (switches : ℕ) (c : Counted) : Type 0 where
  pub count : ℕ
  pub done : List Did
  pub steps_on : (k : ℕ) → steps_from app (count + k) (counted_boot app places) ≡ done ++ steps_from app k c
  pub state_on : (k : ℕ) → state_from app (count + k) (counted_boot app places) ≡ state_from app k c
  pub image : Image
  pub image_on : (k : ℕ) → image_from app (count + k) (counted_boot app places) (image_boot app places) ≡ image_from app k c image
  pub long : length done ≡ count
  pub lines_are : lines ≡ lines_in done
  pub switches_are : switches ≡ switches_in done
  pub unended : cause_in done ≡ None
  pub enough : count + fuel app c ≤ fuel app (counted_boot app places)

-- no step is done
pub at_boot : (app : App) (places : Places) → Come app places [] 0 (counted_boot app places)
at_boot app places = record {
  count = 0;
  done = [];
  steps_on = λ k. ap (λ n. steps_from app n (counted_boot app places)) (none k);
  state_on = λ k. ap (λ n. state_from app n (counted_boot app places)) (none k);
  image = image_boot app places;
  image_on = λ k. ap (λ n. image_from app n (counted_boot app places) (image_boot app places)) (none k);
  long = refl;
  lines_are = refl;
  switches_are = refl;
  unended = refl;
  enough = omega arith;
}
  where
    none : (k : ℕ) → 0 + k ≡ k
    none k = omega arith

-- one step more, which doesn't end the run
pub one_more : (app : App) (places : Places) (lines : List Line) (switches : ℕ) (c : Counted) → is_end (step app c).did.what ≡ false
    → fuel app (step app c).state < fuel app c → Come app places lines switches c
    → Come app places (lines ++ option_list (step app c).did.line) (counted_up (step app c).did.switched switches) (step app c).state
one_more app places lines switches c e falls come = record {
  count = suc come.count;
  done = come.done ++ (step app c).did ∷ [];
  steps_on = λ k.
      ap (λ n. steps_from app n (counted_boot app places)) (shift k) ∙ come.steps_on (suc k) ∙ ap (λ ds. come.done ++ ds) (steps-more app k c e)
      ∙ sym (append_assoc come.done ((step app c).did ∷ []) (steps_from app k (step app c).state));
  state_on = λ k. ap (λ n. state_from app n (counted_boot app places)) (shift k) ∙ come.state_on (suc k) ∙ state-more app k c e;
  image = next_image app c come.image;
  image_on = λ k.
      ap (λ n. image_from app n (counted_boot app places) (image_boot app places)) (shift k) ∙ come.image_on (suc k)
      ∙ image-more app k c come.image e;
  long = let more = length-append come.done ((step app c).did ∷ []) in omega (arith, more, come.long);
  lines_are = ap (λ ls. ls ++ option_list (step app c).did.line) come.lines_are ∙ sym (lines-one come.done (step app c).did);
  switches_are = ap (counted_up (step app c).did.switched) come.switches_are ∙ sym (switches-one come.done (step app c).did);
  unended = cause-one come.done (step app c).did come.unended ∙ no_cause (step app c).did.what e;
  enough = omega (arith, come.enough, falls);
}
  where
    shift : (k : ℕ) → suc come.count + k ≡ come.count + suc k
    shift k = omega arith

-- what the whole run is, where the next step ends it
pub record Ends (app : App) (places : Places) (lines : List Line) (switches : ℕ) (c : Counted) (number : ℕ) : Type 0 where
  pub lines_are : lines ++ option_list (step app c).did.line ≡ lines_in (run_steps app places)
  pub cause_is : cause_in (run_steps app places) ≡ cause_of (step app c).did.what
  pub switches_are : counted_up (step app c).did.switched switches ≡ switches_in (run_steps app places)
  pub state_is : run_end app places ≡ (step app c).state
  pub schedule_is : schedule_of app places ≡ scheduled (image_beside app places (suc number))

pub at_end : (app : App) (places : Places) (lines : List Line) (switches : ℕ) (c : Counted) → is_end (step app c).did.what ≡ true
    → (come : Come app places lines switches c) → Ends app places lines switches c come.count
at_end app places lines switches c e come = record {
  lines_are = ap (λ ls. ls ++ option_list (step app c).did.line) come.lines_are ∙ sym (ap lines_in whole ∙ lines-one come.done (step app c).did);
  cause_is = ap cause_in whole ∙ cause-one come.done (step app c).did come.unended;
  switches_are = ap (counted_up (step app c).did.switched) come.switches_are ∙ sym (ap switches_in whole ∙ switches-one come.done (step app c).did);
  state_is = ap (λ n. state_from app n (counted_boot app places)) all ∙ come.state_on (suc rest) ∙ state-last app rest c e;
  schedule_is =
      ap scheduled
      (ap (λ n. image_beside app places n) all ∙ come.image_on (suc rest) ∙ image-last app rest c come.image e
      ∙ sym (image-last app 0 c come.image e) ∙ sym (come.image_on 1) ∙ ap (λ n. image_beside app places n) one);
}
  where
    one : come.count + 1 ≡ suc come.count
    one = omega arith

    rest : ℕ
    rest = fuel app (counted_boot app places) - suc come.count

    all : fuel app (counted_boot app places) ≡ come.count + suc rest
    all = omega (arith, come.enough)

    whole : run_steps app places ≡ come.done ++ (step app c).did ∷ []
    whole = ap (λ n. steps_from app n (counted_boot app places)) all ∙ come.steps_on (suc rest) ∙ ap (λ ds. come.done ++ ds) (steps-last app rest c e)

-- one step more stands behind those before
pub steps_next : (app : App) (places : Places) (lines : List Line) (switches : ℕ) (c : Counted) (come : Come app places lines switches c)
    → steps_from app (suc come.count) (counted_boot app places) ≡ steps_from app come.count (counted_boot app places) ++ (step app c).did ∷ []
unfolding steps_from
steps_next app places lines switches c come =
    let more : suc come.count ≡ come.count + 1 = omega arith in
    let same : come.count + 0 ≡ come.count = omega arith in
    ap (λ n. steps_from app n (counted_boot app places)) more ∙ come.steps_on 1
    ∙ ap (λ ds. come.done ++ ds) (one (is_end (step app c).did.what))
    ∙ ap (λ ds. ds ++ (step app c).did ∷ []) (sym (none come.done) ∙ sym (come.steps_on 0) ∙ ap (λ n. steps_from app n (counted_boot app places)) same)
  where
    one : (b : Bool) → (if b then (step app c).did ∷ [] else (step app c).did ∷ []) ≡ (step app c).did ∷ []
    one true = refl
    one false = refl

    none : (xs : List Did) → xs ++ [] ≡ xs
    none [] = refl
    none (x ∷ xs) = ap (λ ys. x ∷ ys) (none xs)

-- the state that a run has come to, and the one after the next step, are those after some number of steps
pub come_state : (app : App) (places : Places) (lines : List Line) (switches : ℕ) (c : Counted) (come : Come app places lines switches c)
    → state_from app (come.count + 0) (counted_boot app places) ≡ c
come_state app places lines switches c come = come.state_on 0 ∙ state-none app c

pub next_state : (app : App) (places : Places) (lines : List Line) (switches : ℕ) (c : Counted) (come : Come app places lines switches c)
    → state_from app (come.count + 1) (counted_boot app places) ≡ (step app c).state
next_state app places lines switches c come = come.state_on 1 ∙ by_test (is_end (step app c).did.what) refl
  where
    by_test : (b : Bool) → is_end (step app c).did.what ≡ b → state_from app 1 c ≡ (step app c).state
    by_test true e = state-last app 0 c e
    by_test false e = state-more app 0 c e ∙ state-none app (step app c).state

-- what a kernel keeps has one less than the fuel of each state that it stands for
pub same_fuel : (kept : Kept) (places : Places) (app : App) (c : Counted) → kept.app ≡ app → Stands kept places c → suc (kept_fuel kept) ≡ fuel app c
same_fuel kept places app c e h =
    ap (λ a. suc (a.table.horizon - kept.clock + length kept.left)) e
    ∙ ap (λ clock. suc (app.table.horizon - clock + length kept.left)) h.clock
    ∙ ap (λ left. suc (app.table.horizon - c.clock + length left)) h.left

-- what a step of a kernel tells of its application, of the same application by another name
pub told : (kept : Kept) (places : Places) (other app : App) (c : Counted) (did : Did) → other ≡ app
    → Stands kept places (step other c).state × (did ≡ (step other c).did) → Stands kept places (step app c).state × (did ≡ (step app c).did)
told kept places other app c did e h = subst (λ a. Stands kept places (step a c).state × (did ≡ (step a c).did)) e h

-- what isn't the end of a run is none
pub not_end : (what : What) → ((cause : End) → what ≡ Ended cause → ⊥) → is_end what ≡ false
not_end (Delivered event) h = refl
not_end (Stepped t kind) h = refl
not_end Idled h = refl
not_end (Ended cause) h = absurd (h cause refl)

-- the same of other, equal lines and switches
pub on_same : (app : App) (places : Places) (lines other_lines : List Line) (switches other_switches : ℕ) (c : Counted)
    → other_lines ≡ lines → other_switches ≡ switches → Come app places lines switches c → Come app places other_lines other_switches c
on_same app places lines other_lines switches other_switches c l s come = record {
  count = come.count;
  done = come.done;
  steps_on = come.steps_on;
  state_on = come.state_on;
  image = come.image;
  image_on = come.image_on;
  long = come.long;
  lines_are = l ∙ come.lines_are;
  switches_are = s ∙ come.switches_are;
  unended = come.unended;
  enough = come.enough;
}

-- ---- how many steps are done

pub at_boot_count : (app : App) (places : Places) → (at_boot app places).count ≡ 0
unfolding at_boot
at_boot_count app places = refl

pub on_same_count : (app : App) (places : Places) (lines other_lines : List Line) (switches other_switches : ℕ) (c : Counted)
    (l : other_lines ≡ lines) (s : other_switches ≡ switches) (come : Come app places lines switches c)
    → (on_same app places lines other_lines switches other_switches c l s come).count ≡ come.count
unfolding on_same
on_same_count app places lines other_lines switches other_switches c l s come = refl

pub one_more_count : (app : App) (places : Places) (lines : List Line) (switches : ℕ) (c : Counted) (e : is_end (step app c).did.what ≡ false)
    (falls : fuel app (step app c).state < fuel app c) (come : Come app places lines switches c)
    → (one_more app places lines switches c e falls come).count ≡ suc come.count
unfolding one_more
one_more_count app places lines switches c e falls come = refl
