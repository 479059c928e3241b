-- Texts that are put into a report one after the other, as `put_number` puts them. Assumes nothing.
use mathlib.Core.Path.{◌≡◌, ap, ◌∙◌}
use mathlib.Core.List.{List, ◌++◌, append_assoc}
use Prim.Native.Nat.{ℕ, ◌+◌, ◌≤◌}
use native.Mathlib.Omega.{arith}
use lib.ListN.{length, length-append}
use Rattle.texts.specs.Decimal.{decimal}
use Rattle.texts.specs.Texts.{end, PutNumberSays, put_fits}
use Rattle.report.specs.Report.{numbered}
use Rattle.bits.specs.Buffers.{put_at, put_length, put_put}

module _ (report word : List ℕ) (offset n : ℕ) (fits : offset + length (numbered word n) ≤ length report) where
  long : length (numbered word n) ≡ length word + length (decimal n) + 1
  long = simp (length-append) (omega arith)

  pub word_fits : offset + length word ≤ length report
  word_fits = omega (arith, fits, long)

  -- the word is there
  module _ (after : ℕ) (worded : List ℕ) (ends : after ≡ offset + length word) (put : worded ≡ put_at report offset word) where
    worded_length : length worded ≡ length report
    worded_length = ap length put ∙ put_length report offset word word_fits

    digits_fit : after + length (decimal n) ≤ length worded
    digits_fit = omega (arith, fits, long, worded_length, ends)

    -- and the number
    module _ (last : ℕ) (numeral : List ℕ) (digits : PutNumberSays worded after n last numeral) where
      further : last ≡ after + length (decimal n)
      further = ap (λ out. out.0) (digits ∙ put_fits after worded (decimal n) digits_fit)

      put_more : numeral ≡ put_at worded after (decimal n)
      put_more = ap (λ out. out.1) (digits ∙ put_fits after worded (decimal n) digits_fit)

      pub end_fits : last + 1 ≤ length numeral
      end_fits =
          let same = ap length put_more ∙ put_length worded after (decimal n) digits_fit in
          omega (arith, fits, long, worded_length, ends, further, same)

      both : numeral ≡ put_at report offset (word ++ decimal n)
      both = put_more ∙ (λ i. put_at (put i) (ends i) (decimal n)) ∙ put_put report offset word (decimal n) word_fits

      reached : last ≡ offset + length (word ++ decimal n)
      reached = let joined = length-append word (decimal n) in omega (arith, further, ends, joined)

      pub all_put : (line : List ℕ) → line ≡ put_at numeral last end → line ≡ put_at report offset (numbered word n)
      all_put line put_last =
          let joined = length-append word (decimal n) in
          put_last ∙ (λ i. put_at (both i) (reached i) end)
          ∙ put_put report offset (word ++ decimal n) end (omega (arith, fits, long, joined))
          ∙ ap (put_at report offset) (append_assoc word (decimal n) end)

      pub all_length : (finish : ℕ) → finish ≡ last + 1 → finish ≡ offset + length (numbered word n)
      all_length finish e = omega (arith, e, further, ends, long)
