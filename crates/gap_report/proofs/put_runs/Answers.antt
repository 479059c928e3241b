-- `gap_report::put_runs` meets its contract: the list is not refused, and its lines are those of the runs. Assumes nothing.
use Rattle.std.proofs.Common.{◌≡◌, ◌*◌, ◌≤◌, ap, sym, ◌∙◌, length, arith, rules, length-take-le, refl}
use Rattle.texts.specs.Texts.{put_all}
use Rattle.gap_report.proofs.Putting.{not_refused, list_few, list_lines}
use Rattle.gap_report.proofs.put_runs.Goals as goal
use Rattle.gap_report.proofs.put_runs.Goals.{After-unwrap-count}

pub unwrap-count-requires : goal.unwrap-count-requires
unwrap-count-requires c = not_refused c.args.tree c.args.used _ c.runs.result _ c.runs.ensures c.requires (omega arith)

-- the list has so many numbers
few_at : (c : After-unwrap-count) → 2 * c.unwrap-count.result ≤ length c.runs.new.list
few_at c =
    let long : length c.runs.new.list ≡ 1024 = search rules in
    let few = list_few c.args.tree c.args.used _ c.runs.result _ c.runs.ensures c.requires (omega arith) _ c.unwrap-count.ensures in
    omega (arith, long, few)

pub overflow_mul-list : goal.overflow_mul-list
overflow_mul-list c =
    let long : length c.runs.new.list ≡ 1024 = search rules in
    record { fits = omega (arith, long, few_at (goal.at.overflow_mul-list c).After-unwrap-count) }

pub slice_bounds-list-end : goal.slice_bounds-list-end
slice_bounds-list-end c = few_at (goal.at.slice_bounds-list-end c).After-unwrap-count

pub slice_bounds-as_chunks-end : goal.slice_bounds-as_chunks-end
slice_bounds-as_chunks-end c = sym (length-take-le _ _ (few_at (goal.at.slice_bounds-as_chunks-end c).After-unwrap-count))

pub returns : goal.returns
returns c =
    let asked = c.args in
    c.put_list.ensures
    ∙ ap (put_all (asked.at, asked.text.now))
    (list_lines asked.tree asked.used _ c.runs.result _ c.runs.ensures c.requires (omega arith) _ c.unwrap-count.ensures asked.word.now _ refl _ c.as_chunks.ensures.front)
