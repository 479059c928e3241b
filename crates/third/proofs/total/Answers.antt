-- `third::total` meets its contract: sixteen numbers below 2 ^ 16 are added. Assumes nothing.
use mathlib.Core.Path.{◌≡◌, ◌∙◌}
use native.Mathlib.Omega.{arith}
use lib.ListN.{length}
use borrow.Author.Rules.{rules}
use Prim.Native.Nat.{◌≤◌, ◌^◌}
use Rattle.std.proofs.Common.{sum}
use Rattle.std.proofs.lemmas.Iterator.{YieldsList-from_slice}
use Rattle.std.proofs.lemmas.Iterator.Adapters.{fits_from_length, at_most_from_yields_List}
use Rattle.third.proofs.Outcomes.{sum_is}
use Rattle.third.proofs.total.Goals as goal

pub sum-requires-clause-fits : goal.sum-requires-clause-fits
sum-requires-clause-fits c =
    let few : length c.args.counts.now ≤ 16 = omega arith in
    fits_from_length _ _ 16 (2 ^ 64) (at_most_from_yields_List (YieldsList-from_slice c.args.counts.now cc) few) c.map.ensures.closure (omega arith) (λ x r q k. search rules)

pub returns : goal.returns
returns c =
    let added : c.sum.result ≡ sum c.args.counts.now = search rules in
    added ∙ sum_is c.args.counts.now c.told-counts
