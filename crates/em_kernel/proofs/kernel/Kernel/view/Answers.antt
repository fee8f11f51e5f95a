use Rattle.std.proofs.Common.{◌∙◌, drop, slice_index_or, sym, ap, subst}
use Rattle.em_base.specs.declared.apps.App.{App}
use Rattle.em_base.specs.Selection.{no_key}
use Rattle.em_gate.specs.Selecting.{keys_of}
use Rattle.em_system.specs.Held.{Holds}
use Rattle.em_kernel.specs.Copyings.{copies_of}
use Rattle.em_kernel.specs.Kept.{Kept, Stands}
use Rattle.em_kernel.proofs.Shown.{same_view}
use Rattle.em_kernel.proofs.Steps.{keeps}
use Rattle.em_kernel.proofs.kernel.Kernel.view.Goals as goal

pub returns : goal.returns
returns c = λ s places st.
    let system = c.self.inside.system in
    let kept : Kept = keeps system.app system (record { buffers = c.self.inside.buffers.items; copies = copies_of c.self.inside.copies.items }) (drop c.self.inside.at c.self.inside.events.items) c.self.inside.meter in
    let stood : Stands kept places s = subst (λ (k : Kept). Stands k places s) (sym c.self.view_is) st in
    let holds : Holds system s.plain s.promises = record { tasks = stood.tasks; promised = stood.promises; owners = stood.owners; shared = stood.shared } in
    let key = c.key.ensures s.plain s.promises holds
    ∙ ap (λ (a : App). slice_index_or (keys_of a.table.tasks s.plain.tasks) c.args.t.0 no_key) (ap (λ (k : Kept). k.app) c.self.view_is) in
    same_view (c.status.ensures s.plain s.promises holds) (c.promise.ensures s.plain s.promises holds) (c.is_stopped.ensures s.plain s.promises holds) key
    (c.pc.ensures s.plain s.promises holds)
