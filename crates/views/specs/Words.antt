-- The view of 2 ^ j words of 64 slots in a row, with nothing beside them: always sound. Rests on `Painting` and on the views of `slots`.
use Rattle.std.specs.Prelude.{◌≡◌, refl, Bool, false, List, [], ◌∷◌, ℕ, zero, suc, ◌+◌, ◌*◌, ◌^◌, ◌≤◌, ◌<◌, length, get_or, ltb}
use Rattle.std.proofs.Common.{sym, ap, ◌∙◌, suc-add, add-suc, add-zero, zero-add, arith, ext_get_or, pow_pos, pow-add, ltb-true, ltb-false}
use Rattle.std.proofs.Math.Path.{fun_ext}
use Rattle.std.proofs.Math.ListN.{get_or-eq_default}
use Rattle.bits.specs.Range.{either}
use Rattle.bits.specs.Digits.{digit, number, number_lt, number_digit, number_agree}
use Rattle.bits.proofs.Digits.{digit_number, past_digit}
use Rattle.slots.specs.Sets.{Slots}
use Rattle.views.specs.Painting.{slots_in, slot_in, slots_all, slot_past, slot_in_word, end_in, painted_words, painted_long, painted_fit}

-- ---- lists

-- f at s and at each number after it, n in all
unfoldable pub listed : {A : Type 0} → (ℕ → A) → ℕ → ℕ → List A
listed f s zero = []
listed f s (suc n) = f s ∷ listed f (suc s) n

pub length_listed : {A : Type 0} (f : ℕ → A) (s n : ℕ) → length (listed f s n) ≡ n
unfolding listed
length_listed f s zero = refl
length_listed f s (suc n) = ap suc (length_listed f (suc s) n)

listed_at : {A : Type 0} (f : ℕ → A) (s n i : ℕ) (d : A) → i < n → get_or (listed f s n) i d ≡ f (s + i)
unfolding listed
listed_at f s zero i d h = absurd (omega arith)
listed_at f s (suc n) zero d h = ap f (sym (add-zero s))
listed_at f s (suc n) (suc i) d h = listed_at f (suc s) n i d (omega arith) ∙ ap f (suc-add s i ∙ sym (add-suc s i))

pub listed_first : {A : Type 0} (f : ℕ → A) (n i : ℕ) (d : A) → i < n → get_or (listed f 0 n) i d ≡ f i
listed_first f n i d l = listed_at f 0 n i d l ∙ ap f (zero-add i)

-- a list is known by its elements
pub listed_is : {A : Type 0} (xs : List A) (f : ℕ → A) (n : ℕ) (d : A) → length xs ≡ n → ((i : ℕ) → i < n → get_or xs i d ≡ f i) → xs ≡ listed f 0 n
listed_is xs f n d many each =
    ext_get_or d xs (listed f 0 n) (many ∙ sym (length_listed f 0 n)) (λ i l. let b : i < n = rw (sym many) l in each i b ∙ sym (listed_first f n i d b))

pub listed_agree : {A : Type 0} (f g : ℕ → A) (n : ℕ) (d : A) → ((i : ℕ) → i < n → f i ≡ g i) → listed f 0 n ≡ listed g 0 n
listed_agree f g n d agree = listed_is (listed f 0 n) g n d (length_listed f 0 n) (λ i l. listed_first f n i d l ∙ agree i l)

-- ---- the words of a set

-- word i of a set
abbrev pub word_of : Slots → ℕ → ℕ
word_of S i = number (λ p. S (i * 64 + p)) 64

-- the first 2 ^ j of them
abbrev pub words_of : ℕ → Slots → List ℕ
words_of j S = listed (word_of S) 0 (2 ^ j)

-- 2 ^ j words below 2 ^ 64
pub record AreWords (j : ℕ) (words : List ℕ) : Type 0 where
  pub so_many : length words ≡ 2 ^ j
  pub each_fits : (i : ℕ) → i < 2 ^ j → get_or words i 0 < 2 ^ 64

-- place p of word i is slot i * 64 + p of the set
pub word_digit : (j : ℕ) (S : Slots) (i p : ℕ) → i < 2 ^ j → p < 64 → digit (get_or (words_of j S) i 0) p ≡ S (i * 64 + p)
word_digit j S i p h l = ap (λ (w : ℕ). digit w p) (listed_first (word_of S) (2 ^ j) i 0 h) ∙ digit_number (λ q. S (i * 64 + q)) 64 p l

pub made_words : (j : ℕ) (S : Slots) → AreWords j (words_of j S)
made_words j S = record {
  so_many = length_listed (word_of S) 0 (2 ^ j);
  each_fits = λ i l. rw (listed_first (word_of S) (2 ^ j) i 0 l) (number_lt (λ p. S (i * 64 + p)) 64);
}

-- a word past the last counts as 0
pub any_fits : (j : ℕ) (words : List ℕ) → AreWords j words → (i : ℕ) → get_or words i 0 < 2 ^ 64
any_fits j words held i =
    either (ltb i (2 ^ j)) (λ t. held.each_fits i (ltb-true i (2 ^ j) t))
    (λ t. rw (get_or-eq_default words 0 {n = i} (rw held.so_many (ltb-false i (2 ^ j) t))) (pow_pos 64))

-- ---- their view

module _ (j : ℕ) (most : 2 ^ j ≤ 256) where
  pub slots_are : (words : List ℕ) → AreWords j words → slots_in words ≡ 2 ^ (j + 6)
  slots_are words held = slots_all words (2 ^ j) held.so_many most ∙ sym (pow-add 2 j 6)

  -- word i is one of the words that hold slots
  pub word_held : (words : List ℕ) → AreWords j words → (i : ℕ) → i < 2 ^ j → i * 64 < slots_in words
  word_held words held i l = rw (slots_all words (2 ^ j) held.so_many most) (omega arith)

  pub past_words : (words : List ℕ) → AreWords j words → (s : ℕ) → 2 ^ (j + 6) ≤ s → slot_in words s ≡ false
  past_words words held s l = slot_past words s (rw (slots_are words held) l)

  pub same_words : (words : List ℕ) → AreWords j words → words_of j (slot_in words) ≡ words
  same_words words held =
      let long = length_listed (word_of (slot_in words)) 0 (2 ^ j) in
      ext_get_or 0 _ _ (long ∙ sym held.so_many) (λ i l.
      let b : i < 2 ^ j = rw (sym long) l in
      listed_first (word_of (slot_in words)) (2 ^ j) i 0 b
      ∙ number_agree _ (digit (get_or words i 0)) 64 (λ p q. slot_in_word words i p (word_held words held i b) q)
      ∙ number_digit (get_or words i 0) 64 (held.each_fits i b))

  -- ---- a run painted in them

  pub painted_are_words : (words : List ℕ) → AreWords j words → (s n : ℕ) (v : Bool) → AreWords j (painted_words words s n v)
  unfolding painted_words
  painted_are_words words held s n v = record {
    so_many = painted_long words s n v ∙ held.so_many;
    each_fits = λ i l. painted_fit words s (end_in (slots_in words) s n) v (any_fits j words held) 256 i;
  }

-- ---- one word: its slots are its digits

pub one_word : (bits : ℕ) → bits < 2 ^ 64 → slot_in (bits ∷ []) ≡ digit bits
one_word bits fits = fun_ext (λ s.
    either (ltb s 64)
    (λ t. ap (slot_in (bits ∷ [])) (omega arith) ∙ slot_in_word (bits ∷ []) 0 s (rw many (omega arith)) (ltb-true s 64 t))
    (λ t. slot_past (bits ∷ []) s (rw many (ltb-false s 64 t)) ∙ sym (past_digit bits 64 s fits (ltb-false s 64 t))))
  where
    many : slots_in (bits ∷ []) ≡ 64
    many = slots_all (bits ∷ []) 1 refl (omega arith)
