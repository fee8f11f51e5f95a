use Rattle.std.proofs.Common.{rules, ◌≡◌, ◌∙◌, [], length, replicate, None, sym, ap, subst}
use Rattle.em_ports.specs.Ports.{Places}
use Rattle.em_kernel.specs.Buffers.{AreBuffers}
use Rattle.em_kernel.specs.Copyings.{copies_of}
use Rattle.em_kernel.specs.declared.meter.Meter.{Meter}
use Rattle.em_kernel.proofs.Booted.{boot_kernel, boot_stands, cheap_within, first_are, no_copies_of, threads_first}
use Rattle.em_kernel.proofs.kernel.Kernel.boot.Goals as goal

pub invariant_of-result : goal.invariant_of-result
invariant_of-result c =
    let app = c.args.app.now in
    let places : Places = [] in
    let given : length c.as_slice.result.now ≡ length app.table.tasks = search rules in
    let none : copies_of c.in_ok-no_copies.field-0.items ≡ replicate (length app.table.tasks) None =
    ap copies_of (c.in_ok-no_copies.ensures ∙ ap (λ n. replicate n None) given) ∙ no_copies_of (length app.table.tasks) in (
      boot_kernel app c.in_ok-boot.field-0 c.charges.result c.in_ok-events.field-0.items c.boot-2.result
          c.in_ok-boot.ensures.app c.in_ok-boot.ensures.sound c.in_ok-boot.ensures.idle c.boot-2.ensures c.requires.app c.charges.ensures.charges
          (cheap_within c.charges.result c.charges.ensures.call c.charges.ensures.release c.charges.ensures.switch)
          c.in_ok-events.ensures.few c.in_ok-events.ensures.early c.in_ok-events.ensures.possible,
      subst (λ (m : Meter). AreBuffers c.in_ok-boot.field-0 c.in_ok-first_buffers.field-0.items (copies_of c.in_ok-no_copies.field-0.items) m.count) (sym c.boot-2.ensures)
          (first_are app c.in_ok-boot.field-0 c.in_ok-first_buffers.field-0.items (copies_of c.in_ok-no_copies.field-0.items) c.in_ok-boot.ensures.app
          (threads_first app c.in_ok-boot.field-0 places _ (c.in_ok-boot.ensures.holds places)) (c.in_ok-first_buffers.ensures.count, c.in_ok-first_buffers.ensures.first) none),
    )

pub returns-clause-stands : goal.returns-clause-stands
returns-clause-stands c = λ places.
    let app = c.args.app.now in
    let given : length c.as_slice.result.now ≡ length app.table.tasks = search rules in
    let none : copies_of c.in_ok-no_copies.field-0.items ≡ replicate (length app.table.tasks) None =
    ap copies_of (c.in_ok-no_copies.ensures ∙ ap (λ n. replicate n None) given) ∙ no_copies_of (length app.table.tasks) in
    boot_stands app c.in_ok-boot.field-0 c.in_ok-first_buffers.field-0.items (copies_of c.in_ok-no_copies.field-0.items) c.in_ok-events.field-0.items c.boot-2.result places
    c.in_ok-boot.ensures.app (c.in_ok-boot.ensures.holds places) c.in_ok-boot.ensures.idle c.in_ok-events.ensures.exact c.boot-2.ensures
    (c.in_ok-first_buffers.ensures.count, c.in_ok-first_buffers.ensures.first) none
