use Rattle.std.proofs.Common.{◌≤◌, arith}
use Rattle.em_demand.proofs.Greatest.{bands_within, fullest_within}
use Rattle.em_demand.proofs.costs.charges.Goals as goal

pub overflow_add-result-3 : goal.overflow_add-result-3
overflow_add-result-3 c =
    let bands : c.band_count.result ≤ 4 = bands_within _ _ _ c.requires c.as_slice-rows.ensures c.band_count.ensures in
    omega arith

pub overflow_add-result-4 : goal.overflow_add-result-4
overflow_add-result-4 c =
    let bands : c.band_count.result ≤ 4 = bands_within _ _ _ c.requires c.as_slice-rows.ensures c.band_count.ensures in
    let fullest : c.fullest_band.result ≤ 32 = fullest_within _ _ _ c.requires c.as_slice-rows.ensures c.fullest_band.ensures.few in
    omega arith

pub returns-clause-switch : goal.returns-clause-switch
returns-clause-switch c =
    let bands : c.band_count.result ≤ 4 = bands_within _ _ _ c.requires c.as_slice-rows.ensures c.band_count.ensures in
    let fullest : c.fullest_band.result ≤ 32 = fullest_within _ _ _ c.requires c.as_slice-rows.ensures c.fullest_band.ensures.few in
    (omega arith, omega arith)
