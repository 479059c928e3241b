-- The lesson's examples, on a map of four slots, as statements that antt computes: why a take cannot be moved, what becomes of a second free, and what a
-- trainee does who frees at reaping. Rests on `Series`, `JobView` and `Turns`.
use Rattle.std.specs.Prelude.{◌≡◌, refl, Bool, true, false, ℕ, ◌^◌, ◌<◌}
use Rattle.std.proofs.Common.{arith}
use mathlib.Core.List.{List, [], ◌∷◌, Perm}
use Rattle.answers.specs.Said.{Said, value, refused, judged, leaving}
use Rattle.answers.specs.declared.Reply.{Reply}
use Rattle.answers.specs.declared.Reply.TheVariants.{At as at, Done as ok}
use Rattle.bits.specs.Range.{least, every, within}
use Rattle.bits.specs.Digits.{digit, number, number_lt, number_digit}
use Rattle.bits.proofs.Digits.{digit_number, past_digit}
use Rattle.slots.specs.Sets.{all_free, all_used, painted}
use Rattle.slots.specs.Lowest.{fits_at, lowest}
use Rattle.slots.specs.Calls.{take_call}
use Rattle.slots.specs.Records.{Entry, naming_any_order}
use Rattle.slots.specs.View.{View, answered, changed}
use Rattle.slots.specs.Kinds.{plain}
use Rattle.slots.specs.Jobs.{jobs, start_call, reap_call, record_call}
use Rattle.slots.specs.JobView.{jobs_view, reaped_used}
use Rattle.slots.specs.Turns as Turns
use Rattle.slots.specs.Turns.{start, reap, record_status}

-- four slots in one number: slot s is digit s
abbrev pub four : View plain
four = record {
  k = 2;
  Map = ℕ;
  state_of = digit;
  of_state = λ S. number S 4;
  Sound = λ m. Unit {0};
  is_sound = λ m. true;
  IsMap = λ m. m < 2 ^ 4;
  finds_sound = λ m. (λ t. tt, λ t. tt);
  holds = λ S s h. digit_number S 4 s h;
  past = λ m held s h. past_digit m 4 s held h;
  right = λ m sound held. tt;
  made_sound = λ S right. tt;
  made_map = λ S. number_lt S 4;
  same = λ m sound held. number_digit m 4 held;
}

abbrev entry : Bool → ℕ → Entry
entry v s = record { used = v; start = s; entries = 1 }

-- no order of the one record is the other: only one of them marks slot 1
pub other_entries : Perm (entry true 1 ∷ entry false 0 ∷ []) (entry false 0 ∷ entry true 0 ∷ []) → ⊥
unfolding within
other_entries same = let marks : ◌≡◌ {A = ℕ} 1 0 = naming_any_order plain true 1 _ _ same in omega arith

-- ---- a trainee who frees at reaping, and the same day where a reaped slot is not free

-- four slots of jobs: a number for the used slots, and another for the reaped ones
abbrev pub four_jobs : View jobs
four_jobs = jobs_view four four (ℕ × ℕ) (record {
  below = λ m. m.0;
  reaped = λ m. m.1;
  pair = λ used reaped. (used, reaped);
  below_pair = λ used reaped. refl;
  reaped_pair = λ used reaped. refl;
  pair_same = λ m. refl;
  same_size = refl;
  always_sound = λ r. tt;
})

-- what is said of each call, one after the other
abbrev pub said_of : ℕ × ℕ → List Turns.Asked → List (Said Reply)
said_of m [] = []
said_of m (c ∷ cs) =
    let out = changed four_jobs m (Turns.call_of 2 (four_jobs.state_of m) c) in
    out.0 ∷ said_of out.1 cs

-- the shortcuts: recording before reaping, reaping twice, and reaping a run that is partly reaped
pub shortcuts_are_refused : (said_of (0, 0) (start 2 0 ∷ record_status 0 2 ∷ reap 0 1 ∷ reap 0 1 ∷ reap 0 2 ∷ record_status 0 2 ∷ []) ≡ value (at 0) ∷ refused 14 ∷ value ok ∷ refused 13 ∷ refused 13 ∷ refused 14 ∷ [])
unfolding changed answered leaving judged take_call start_call reap_call record_call lowest fits_at least every within all_free all_used painted reaped_used digit number
shortcuts_are_refused = refl

-- a reaped slot that is not used is refused with 1, by every call
pub stray_is_refused : said_of (0, 1) (start 1 0 ∷ reap 0 1 ∷ record_status 0 1 ∷ []) ≡ refused 1 ∷ refused 1 ∷ refused 1 ∷ []
unfolding changed answered leaving judged start_call take_call reap_call record_call reaped_used every digit
stray_is_refused = refl
