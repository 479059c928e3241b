-- The view of the tree map: sixteen words of 64 slots in a row, and beside them their summary, their mark of full words and their count, each kept as one
-- step more. Rests on `views`.
use Rattle.std.specs.Prelude.{◌≡◌, refl, ◌↔◌, true, List, ℕ, ◌+◌, ◌-◌, ◌*◌, ◌^◌, ◌<◌, length, get_or}
use Rattle.std.proofs.Common.{ap, ◌∙◌, arith}
use Rattle.bits.specs.Range.{count, count_agree}
use Rattle.bits.specs.Digits.{digit}
use Rattle.slots.specs.Sets.{Slots, SomeUsed, AllUsed}
use Rattle.slots.specs.Kinds.{plain}
use Rattle.slots.specs.Family.{Family}
use Rattle.slots.proofs.Plain.{plain_calls}
use Rattle.slots.specs.View.{View}
use Rattle.views.specs.Keeping.{carried}
use Rattle.views.proofs.Keeping.{keeping, also}
use Rattle.views.specs.Painting.{slot_in}
use Rattle.views.specs.Words.{AreWords, word_digit, slots_are}
use Rattle.views.proofs.Words.{words_view}
use Rattle.views.specs.Marks.{sixteen_fit, marks_agree}
use Rattle.views.specs.Summary.{not_zero, NotZero, finds_not_zero, summary_of}
use Rattle.views.proofs.Summary.{summary_kept, part_used}
use Rattle.views.specs.Full.{all_ones, AllOnes, finds_all_ones, full_of}
use Rattle.views.proofs.Full.{full_kept, part_full}
use Rattle.views.specs.Count.{count_of}
use Rattle.views.proofs.Count.{count_kept}
use Rattle.tree.specs.declared.Tree.{Tree}
use Rattle.tree.specs.declared.Stored.{Stored}

abbrev pub stored_of : ℕ → ℕ → ℕ → Stored
stored_of summary full count = record { summary = summary; full = full; count = count }

abbrev pub tree_of : List ℕ → Stored → Tree
tree_of words stored = record { words = words; stored = stored }

-- what is stored beside these words: their summary, their mark of full words, their count
abbrev pub theirs : List ℕ → Stored
theirs words = stored_of (summary_of words) (full_of words) (count_of words)

-- the tree that holds the slots of some words: these words, and what is theirs
abbrev pub holding : List ℕ → Tree
holding words = tree_of words (theirs words)

-- slot s is bit s % 64 of word s / 64
abbrev pub slot_of : Tree → Slots
slot_of t = slot_in t.words

-- ---- the view, a field at a time

abbrev pub bare : View plain
bare = words_view 4 sixteen_fit

abbrev pub summarised : View plain
summarised = keeping bare (summary_kept 4 sixteen_fit)

abbrev pub marked_full : View plain
marked_full = keeping summarised (also bare (summary_kept 4 sixteen_fit) (full_kept 4 sixteen_fit))

abbrev pub counted : View plain
counted = keeping marked_full (also summarised (also bare (summary_kept 4 sixteen_fit) (full_kept 4 sixteen_fit)) (also bare (summary_kept 4 sixteen_fit) (count_kept 4 sixteen_fit)))

abbrev pub tree_view : View plain
tree_view = carried counted Tree
    (λ t. record { map = record { map = record { map = t.words; kept = t.stored.summary }; kept = t.stored.full }; kept = t.stored.count })
    (λ m. tree_of m.map.map.map (stored_of m.map.map.kept m.map.kept m.kept)) (λ S. refl) (λ t. refl)

-- the calls that a series on a tree may hold: take, claim and free
abbrev pub tree_calls : Family plain 10
tree_calls = plain_calls 10

abbrev pub of_slots : Slots → Tree
of_slots S = tree_view.of_state S

-- all three fields agree with the words
abbrev pub Sound : Tree → Type 0
Sound t = tree_view.Sound t

-- sixteen words below 2 ^ 64, and three fields below 2 ^ 16
abbrev pub IsTree : Tree → Type 0
IsTree t = tree_view.IsMap t

-- ---- what they mean

-- summary bit i is 1 exactly if word i is not 0, bit i of the mark of full words is 1 exactly if word i is all ones, and the count is that of the used slots
pub sound_means : (t : Tree) → Sound t
    ↔ (((i : ℕ) → i < 16 → (digit t.stored.summary i ≡ true) ↔ (get_or t.words i 0 ≡ 0 → ⊥))
    × ((i : ℕ) → i < 16 → (digit t.stored.full i ≡ true) ↔ (get_or t.words i 0 ≡ 2 ^ 64 - 1))
    × (t.stored.count ≡ count_of t.words))
sound_means t = (
  λ sound. (sound.map_sound.map_sound.kept_agrees, sound.map_sound.kept_agrees, sound.kept_agrees),
  λ h. record {
    map_sound = record { map_sound = record { map_sound = tt; kept_agrees = h.0 }; kept_agrees = h.1 };
    kept_agrees = h.2;
  },
)

-- which is to say that what is stored is theirs
pub sound_by_stored : (t : Tree) → t.stored.summary < 2 ^ 16 → t.stored.full < 2 ^ 16 → Sound t ↔ (t.stored ≡ theirs t.words)
sound_by_stored t summary_fits full_fits =
    let summary = marks_agree not_zero NotZero finds_not_zero t.words t.stored.summary summary_fits in
    let full = marks_agree all_ones AllOnes finds_all_ones t.words t.stored.full full_fits in (
      λ sound. let h = (sound_means t).0 sound in (λ i. stored_of (summary.0 h.0 i) (full.0 h.1 i) (h.2 i)),
      λ e. (sound_means t).1 (summary.1 (ap (λ (s : Stored). s.summary) e), full.1 (ap (λ (s : Stored). s.full) e), ap (λ (s : Stored). s.count) e),
    )

pub is_tree_means : (t : Tree) → IsTree t
    ↔ ((length t.words ≡ 16) × ((i : ℕ) → i < 16 → get_or t.words i 0 < 2 ^ 64) × (t.stored.summary < 2 ^ 16) × (t.stored.full < 2 ^ 16)
    × (t.stored.count < 2 ^ 16))
is_tree_means t = (
  λ held. (held.is_map.is_map.is_map.so_many, held.is_map.is_map.is_map.each_fits, held.is_map.is_map.is_field, held.is_map.is_field, held.is_field),
  λ h. record {
    is_map = record { is_map = record { is_map = record { so_many = h.0; each_fits = h.1 }; is_field = h.2 }; is_field = h.3 };
    is_field = h.4;
  },
)

-- the words of a tree
pub are_words : (t : Tree) → IsTree t → AreWords 4 t.words
are_words t held = held.is_map.is_map.is_map

-- the count of its words is how many of its 1,024 slots are used
pub count_means : (t : Tree) → IsTree t → count_of t.words ≡ count (slot_of t) 0 1024
count_means t held = ap (count (slot_of t) 0) (slots_are 4 sixteen_fit t.words (are_words t held))

-- the tree of a set: place p of word i is slot i * 64 + p, summary bit i is 1 exactly if one of word i's slots is used, bit i of the mark of full words exactly
-- if all of them are, and the count is how many slots are used
pub of_slots_means : (S : Slots)
    → ((i : ℕ) → i < 16 → ((p : ℕ) → p < 64 → digit (get_or (of_slots S).words i 0) p ≡ S (i * 64 + p))
    × ((digit (of_slots S).stored.summary i ≡ true) ↔ SomeUsed S (i * 64) 64) × ((digit (of_slots S).stored.full i ≡ true) ↔ AllUsed S (i * 64) 64))
    × ((of_slots S).stored.count ≡ count S 0 1024)
of_slots_means S =
    let right = (sound_means (of_slots S)).0 (tree_view.made_sound S tt) in (
      λ i l.
          let some = part_used 4 sixteen_fit S i l in
          let all = part_full 4 sixteen_fit S i l in (
            λ p h. word_digit 4 S i p l h,
            (λ e. some.0 ((right.0 i l).0 e), λ used. (right.0 i l).1 (some.1 used)),
            (λ e. all.0 ((right.1 i l).0 e), λ used. (right.1 i l).1 (all.1 used)),
          ),
      count_means (of_slots S) (tree_view.made_map S) ∙ count_agree (slot_of (of_slots S)) S 0 1024 (λ i l b. tree_view.holds S i (omega (arith, b))),
    )
