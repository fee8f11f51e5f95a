use Rattle.std.proofs.Common.{◌≤◌, ◌++◌, length, ap, ◌∙◌, subst, sym}
use Rattle.em_gen.proofs.Appended.{three-alone}
use Rattle.em_gen.proofs.Short.{length-workload}
use Rattle.em_gen.specs.Workload.{bundle_text, code_text, script_text, table_text, workload}
use Rattle.em_gen.proofs.making.make.Goals as goal

pub returns-clause-made : goal.returns-clause-made
unfolding workload
returns-clause-made c =
    let tasks = c.in_ok-tasks.tasks.items in
    let start = c.new-text.result.bytes.items in
    let one = c.put_table.new.text.bytes.items in
    let two = c.put_code.new.text.bytes.items in
    ap (λ bytes. bytes.items) c.into_bytes.ensures.value
    ∙ three-alone start one two c.put_script.new.text.bytes.items (table_text tasks) (code_text tasks) script_text c.new-text.ensures.bytes
    (c.in_ok-put_table.ensures ∙ ap (λ ts. start ++ table_text ts) c.deref.ensures.value)
    (c.in_ok-put_code.ensures ∙ ap (λ ts. one ++ code_text ts) c.deref-2.ensures.value) c.in_ok-put_script.ensures
    ∙ ap bundle_text c.in_ok-tasks.ensures

pub returns-clause-few : goal.returns-clause-few
returns-clause-few c = subst (λ bytes. length bytes ≤ 65536) (sym (returns-clause-made c)) (length-workload c.args.n)
