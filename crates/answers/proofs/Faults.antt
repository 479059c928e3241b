-- What stood in specs/Faults and rests on theorems there: moved, its statements unchanged. Rests on `Faults`.
use Rattle.std.specs.Prelude.{List}
use Rattle.answers.specs.Said.{Check, judged}
use Rattle.answers.specs.Faults.{Fault, Rising, Finds, judged_refuses, judged_accepts, first_is_least, FaultsDecide}

pub faults_decide : {A : Type 0} (cs : List Check) (fs : List Fault) (a : A) → Rising 0 fs → Finds cs fs → FaultsDecide (judged cs a) a fs
faults_decide cs fs a r h = record {
  refuses = λ k. (
    λ e. (first_is_least k 0 fs r).0 ((judged_refuses cs fs a k h).0 e),
    λ l. (judged_refuses cs fs a k h).1 ((first_is_least k 0 fs r).1 l),
  );
  accepts = λ b. judged_accepts cs fs a b h;
}
