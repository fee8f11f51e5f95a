use Rattle.std.proofs.Common.{sym, subst}
use Rattle.em_base.specs.Tables.{IsTable}
use Rattle.em_table.proofs.TablesFit.{table_fits}
use Rattle.em_script.proofs.ValidScript.{valid_script}
use Rattle.em_bundle.proofs.WaitLines.{wait_lines}
use Rattle.em_bundle.proofs.laws.sound_application.Goals as goal

pub returns-clause-table : goal.returns-clause-table
returns-clause-table c = λ replay bytes app a.
    let tabled = a.stands.table in
    subst IsTable (sym tabled.same) (table_fits tabled.top tabled.clear)

pub returns-clause-script : goal.returns-clause-script
returns-clause-script c = λ replay bytes app a. (valid_script app.table.tasks _ app.script a.stands.script).script

pub returns-clause-words : goal.returns-clause-words
returns-clause-words c = λ replay bytes app a. (valid_script app.table.tasks _ app.script a.stands.script).words

pub returns-clause-waits : goal.returns-clause-waits
returns-clause-waits c = λ replay bytes app a. wait_lines replay bytes app a
