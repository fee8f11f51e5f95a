use Rattle.std.proofs.Common.{rules, drop_of_length-le, ◌≡◌, ◌∙◌, ◌<◌, ◌≤◌, ◌+◌, suc, List, ◌∷◌, drop, length, sym, ap, subst, refl, arith}
use Rattle.std.proofs.Math.Seq.{drop-cons}
use Rattle.em_base.specs.declared.events.Timed.{Timed}
use Rattle.em_kernel.specs.Copyings.{copies_of}
use Rattle.em_kernel.specs.Kept.{Kept, Stands}
use Rattle.em_kernel.proofs.Kernels.{sound_more}
use Rattle.em_kernel.proofs.Steps.{rests, idles}
use Rattle.em_kernel.proofs.kernel.Kernel.wait.Goals as goal

pub returns-then-self-len-clause-step : goal.returns-then-self-len-clause-step
returns-then-self-len-clause-step c = λ s places st.
    let past : length c.self.inside.events.items ≤ c.self.inside.at = search rules in
    let none = drop_of_length-le c.self.inside.events.items past in
    rests c.args.self.now places s c.end.result (ap (λ k. k.left) (sym c.self.view_is) ∙ none) st (c.end.ensures.did s places st)

pub invariant_of-self : goal.invariant_of-self
invariant_of-self c =
    let inside : c.self.inside.at < length c.self.inside.events.items = search rules in
    let event : Timed = c.index.result.now in
    let here : drop c.self.inside.at c.self.inside.events.items ≡ event ∷ drop (suc c.self.inside.at) c.self.inside.events.items =
    drop-cons c.self.inside.events.items c.self.inside.at event inside
    ∙ ap (λ e. e ∷ drop (suc c.self.inside.at) c.self.inside.events.items) (sym c.index.ensures) in
    let late : c.self.inside.meter.clock < event.time =
    subst (λ k. k.clock < event.time) (sym c.self.view_is)
    (c.requires.later event (drop (suc c.self.inside.at) c.self.inside.events.items) (ap (λ k. k.left) (sym c.self.view_is) ∙ here)) in
    let timely : event.time < c.self.inside.system.app.table.horizon =
    subst (λ e. e.time < c.self.inside.system.app.table.horizon) (sym c.index.ensures) (c.self.invariant.0.timely c.self.inside.at event inside) in
    let k = c.self.invariant.0 in (
      record {
        charged = k.charged;
        cheap = k.cheap;
        horizon = k.horizon;
        within = k.within;
        few = k.few;
        timely = k.timely;
        possible = k.possible;
        selects = k.selects;
        runs = k.runs;
        sound = sound_more (c.self.inside.at + c.self.inside.meter.clock) (c.self.inside.at + event.time) _ (omega (arith, late)) k.sound;
        early = omega (arith, timely, k.horizon);
        short = k.short;
        switched = omega (arith, k.switched, late);
      },
      c.self.invariant.1,
    )

pub returns-clause-step : goal.returns-clause-step
returns-clause-step c = λ s places st.
    let inside : c.self.inside.at < length c.self.inside.events.items = search rules in
    let event : Timed = c.index.result.now in
    let rest : List Timed = drop (suc c.self.inside.at) c.self.inside.events.items in
    let here : drop c.self.inside.at c.self.inside.events.items ≡ event ∷ rest =
    drop-cons c.self.inside.events.items c.self.inside.at event inside ∙ ap (λ e. e ∷ rest) (sym c.index.ensures) in
    let kept : Kept = record {
      app = c.self.inside.system.app;
      threads = c.self.inside.system.threads;
      owners = c.self.inside.system.owners;
      shared = c.self.inside.system.shared;
      buffers = c.self.inside.buffers.items;
      copies = copies_of c.self.inside.copies.items;
      left = drop c.self.inside.at c.self.inside.events.items;
      clock = c.self.inside.meter.clock;
      current = c.self.inside.meter.current;
      count = c.self.inside.meter.count;
      switches = c.self.inside.meter.switches;
    } in
    idles kept places s event rest _ here (subst (λ k. Stands k places s) (sym c.self.view_is) st) refl
