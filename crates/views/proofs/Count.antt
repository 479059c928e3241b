-- What stood in specs/Count and rests on theorems there: moved, its statements unchanged. Rests on `Count`.
use Rattle.std.specs.Prelude.{◌≡◌, refl, ℕ, ◌^◌, ◌≤◌, ◌<◌, eqb}
use Rattle.std.proofs.Common.{sym, eqb→eq}
use Rattle.std.proofs.Math.Dec.{eqb_refl}
use Rattle.views.specs.Keeping.{Kept}
use Rattle.views.proofs.Words.{words_view}
use Rattle.views.specs.Count.{count_of, count_fits}

-- what is stored is that number
abbrev pub count_kept : (j : ℕ) (most : 2 ^ j ≤ 256) → Kept (words_view j most)
count_kept j most = record {
  Field = ℕ;
  IsField = λ stored. stored < 2 ^ 16;
  Agrees = λ words stored. stored ≡ count_of words;
  agrees = λ words stored. eqb stored (count_of words);
  finds_agrees = λ words stored. (eqb→eq stored (count_of words), λ e. rw e (eqb_refl (count_of words)));
  made = count_of;
  made_agrees = λ words held. refl;
  made_field = count_fits;
  only = λ words stored sound held fits agrees. sym agrees;
}
