-- `runner::run` meets its contract: what the run with the map says and writes. Assumes nothing.
use Rattle.report.specs.Demands.{run_map_runs}
use Rattle.runner.proofs.run.Goals as goal

pub returns : goal.returns
returns c =
    let asked = c.args in
    run_map_runs asked.«record».now asked.report.now c.run_map.result.answer _ _ c.run_map.ensures
