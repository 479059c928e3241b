-- The view of the third level: 256 words of 64 slots in a row, sixteen trees side by side. The summaries of the trees and one more over them, the trees' marks
-- of full words and their counts are kept beside the words. Rests on `views`; what soundness means is said with the trees of `tree`.
use Rattle.std.specs.Prelude.{◌≡◌, refl, ◌↔◌, true, List, ℕ, ◌+◌, ◌*◌, ◌^◌, ◌<◌, length, get_or}
use Rattle.std.proofs.Common.{sym, ap, ◌∙◌, arith}
use Rattle.bits.specs.Digits.{digit, number_agree}
use Rattle.slots.specs.Sets.{Slots, Named, SomeUsed}
use Rattle.slots.specs.Kinds.{plain}
use Rattle.slots.specs.View.{View}
use Rattle.views.specs.Keeping.{Kept, carried}
use Rattle.views.proofs.Keeping.{keeping, also}
use Rattle.views.specs.Painting.{slot_in}
use Rattle.views.specs.Words.{AreWords, words_of, word_of, made_words, listed, listed_first, listed_is}
use Rattle.views.proofs.Words.{words_view, holds_words}
use Rattle.views.specs.Marks.{sixteen_fit, marks_of}
use Rattle.views.specs.Summary.{summary_of}
use Rattle.views.specs.Full.{full_of}
use Rattle.views.proofs.Full.{full_kept}
use Rattle.views.specs.Count.{count_of}
use Rattle.views.proofs.Count.{count_kept}
use Rattle.views.specs.Trees.{all_fit, tree_words, tree_word, tree_words_lem, each_of}
use Rattle.views.proofs.Trees.{tree_slot, each_kept}
use Rattle.views.specs.Summaries.{summaries_of, top_of}
use Rattle.views.proofs.Summaries.{top_by_summaries, summaries_kept, top_kept}
use Rattle.tree.specs.declared.Stored.{Stored}
use Rattle.tree.specs.declared.Tree.{Tree}
use Rattle.tree.specs.Layout as Tree
use Rattle.tree.specs.Layout.{stored_of, tree_of}
use Rattle.third.specs.declared.Third.{Third}

abbrev pub third_of : List ℕ → List ℕ → List ℕ → List ℕ → ℕ → Third
third_of words summaries fulls counts summary = record { words = words; summaries = summaries; fulls = fulls; counts = counts; summary = summary }

-- the map that holds the slots of some words: these words, and the fields that are theirs
abbrev pub holding : List ℕ → Third
holding words = third_of words (summaries_of words) (each_of full_of words) (each_of count_of words) (top_of words)

-- the map of some words with these fields of its trees, under the summary over their summaries
abbrev pub under : List ℕ → List ℕ → List ℕ → List ℕ → Third
under words summaries fulls counts = third_of words summaries fulls counts (summary_of summaries)

-- slot s is bit s % 64 of word s / 64
abbrev pub slot_of : Third → Slots
slot_of t = slot_in t.words

-- what is stored of tree i
abbrev pub stored_at : Third → ℕ → Stored
stored_at t i = stored_of (get_or t.summaries i 0) (get_or t.fulls i 0) (get_or t.counts i 0)

-- tree i: its sixteen words, and what is stored of it
abbrev pub tree_at : Third → ℕ → Tree
tree_at t i = tree_of (tree_words t.words i) (stored_at t i)

-- ---- the view, a field at a time

abbrev pub bare : View plain
bare = words_view 8 all_fit

abbrev pub fulls_kept : Kept bare
fulls_kept = each_kept (full_kept 4 sixteen_fit) 0

abbrev pub counts_kept : Kept bare
counts_kept = each_kept (count_kept 4 sixteen_fit) 0

abbrev pub summarised : View plain
summarised = keeping bare summaries_kept

abbrev pub topped : View plain
topped = keeping summarised top_kept

abbrev pub fulls_beside : Kept topped
fulls_beside = also summarised top_kept (also bare summaries_kept fulls_kept)

abbrev pub counts_beside : Kept topped
counts_beside = also summarised top_kept (also bare summaries_kept counts_kept)

abbrev pub counted : View plain
counted = keeping (keeping topped fulls_beside) (also topped fulls_beside counts_beside)

abbrev pub third_view : View plain
third_view = carried counted Third
    (λ t. record { map = record { map = record { map = record { map = t.words; kept = t.summaries }; kept = t.summary }; kept = t.fulls }; kept = t.counts })
    (λ m. third_of m.map.map.map.map m.map.map.map.kept m.map.kept m.kept m.map.map.kept) (λ S. refl) (λ t. refl)

abbrev pub of_slots : Slots → Third
of_slots S = third_view.of_state S

abbrev pub Sound : Third → Type 0
Sound t = third_view.Sound t

-- 256 words below 2 ^ 64, sixteen of each field below 2 ^ 16, and one summary more
abbrev pub IsThird : Third → Type 0
IsThird t = third_view.IsMap t

-- ---- what they mean

-- each tree is sound, and bit i of the summary over them is 1 exactly if tree i holds a used slot
pub sound_means : (t : Third) → Sound t
    ↔ (((i : ℕ) → i < 16 → Tree.Sound (tree_at t i)) × ((i : ℕ) → i < 16 → (digit t.summary i ≡ true) ↔ SomeUsed (slot_of t) (i * 1024) 1024))
sound_means t = (
  λ sound. (
    λ i l. (Tree.sound_means (tree_at t i)).1 (
      sound.map_sound.map_sound.map_sound.kept_agrees i l,
      sound.map_sound.kept_agrees i l,
      sound.kept_agrees i l,
    ),
    sound.map_sound.map_sound.kept_agrees,
  ),
  λ h. record {
    map_sound = record {
      map_sound = record {
        map_sound = record { map_sound = tt; kept_agrees = λ i l. ((Tree.sound_means (tree_at t i)).0 (h.0 i l)).0 };
        kept_agrees = h.1;
      };
      kept_agrees = λ i l. ((Tree.sound_means (tree_at t i)).0 (h.0 i l)).1;
    };
    kept_agrees = λ i l. ((Tree.sound_means (tree_at t i)).0 (h.0 i l)).2;
  },
)

pub is_third_means : (t : Third) → IsThird t
    ↔ ((length t.words ≡ 256) × ((i : ℕ) → i < 256 → get_or t.words i 0 < 2 ^ 64)
    × (length t.summaries ≡ 16) × ((i : ℕ) → i < 16 → get_or t.summaries i 0 < 2 ^ 16)
    × (length t.fulls ≡ 16) × ((i : ℕ) → i < 16 → get_or t.fulls i 0 < 2 ^ 16)
    × (length t.counts ≡ 16) × ((i : ℕ) → i < 16 → get_or t.counts i 0 < 2 ^ 16) × (t.summary < 2 ^ 16))
is_third_means t = (
  λ held.
      let topped-held = held.is_map.is_map in
      let summaries-held = topped-held.is_map in (
        summaries-held.is_map.so_many,
        summaries-held.is_map.each_fits,
        summaries-held.is_field.so_many,
        summaries-held.is_field.each_fits,
        held.is_map.is_field.so_many,
        held.is_map.is_field.each_fits,
        held.is_field.so_many,
        held.is_field.each_fits,
        topped-held.is_field,
      ),
  λ h. record {
    is_map = record {
      is_map = record {
        is_map = record { is_map = record { so_many = h.0; each_fits = h.1 }; is_field = record { so_many = h.2; each_fits = h.3 } };
        is_field = h.8;
      };
      is_field = record { so_many = h.4; each_fits = h.5 };
    };
    is_field = record { so_many = h.6; each_fits = h.7 };
  },
)

-- the words of a map
pub are_words : (t : Third) → IsThird t → AreWords 8 t.words
are_words t held = held.is_map.is_map.is_map.is_map

-- the slots of tree i are the 1,024 from i * 1,024 on
pub tree_slots : (t : Third) → IsThird t → (i s : ℕ) → i < 16 → s < 1024 → Tree.slot_of (tree_at t i) s ≡ slot_of t (i * 1024 + s)
tree_slots t held i s l h = tree_slot t.words (are_words t held) i s l h

-- soundness is to say that the fields are those of the words
pub sound_by_fields : (t : Third) → IsThird t
    → Sound t ↔ ((t.summaries ≡ summaries_of t.words) × (t.fulls ≡ each_of full_of t.words) × (t.counts ≡ each_of count_of t.words) × (t.summary ≡ top_of t.words))
unfolding each_of marks_of top_of
sound_by_fields t held =
    let words = are_words t held in
    let summed = held.is_map.is_map.is_map in (
      λ sound. (
        sym (summaries_kept.only t.words t.summaries tt words summed.is_field sound.map_sound.map_sound.map_sound.kept_agrees),
        sym (fulls_kept.only t.words t.fulls tt words held.is_map.is_field sound.map_sound.kept_agrees),
        sym (counts_kept.only t.words t.counts tt words held.is_field sound.kept_agrees),
        sym (top_kept.only _ t.summary sound.map_sound.map_sound.map_sound summed held.is_map.is_map.is_field sound.map_sound.map_sound.kept_agrees),
      ),
      λ e. record {
        map_sound = record {
          map_sound = record {
            map_sound = record { map_sound = tt; kept_agrees = rw e.0 (summaries_kept.made_agrees t.words words) };
            kept_agrees = rw e.3 (top_kept.made_agrees _ summed);
          };
          kept_agrees = rw e.1 (fulls_kept.made_agrees t.words words);
        };
        kept_agrees = rw e.2 (counts_kept.made_agrees t.words words);
      },
    )

pub holding_is : (words : List ℕ) → AreWords 8 words → IsThird (holding words)
unfolding each_of marks_of top_of
holding_is words held = record {
  is_map = record {
    is_map = record {
      is_map = record { is_map = held; is_field = summaries_kept.made_field words };
      is_field = top_kept.made_field (record { map = words; kept = summaries_kept.made words });
    };
    is_field = fulls_kept.made_field words;
  };
  is_field = counts_kept.made_field words;
}

pub holding_sound : (words : List ℕ) → AreWords 8 words → Sound (holding words)
holding_sound words held = (sound_by_fields (holding words) (holding_is words held)).1 (refl, refl, refl, refl)

-- the map of a set has its words, the fields that are theirs, and the summary over the summaries
pub of_slots_under : (S : Slots) → under (words_of 8 S) (summaries_of (words_of 8 S)) (each_of full_of (words_of 8 S)) (each_of count_of (words_of 8 S)) ≡ of_slots S
unfolding each_of marks_of top_of
of_slots_under S =
    ap (third_of (words_of 8 S) (summaries_of (words_of 8 S)) (each_of full_of (words_of 8 S)) (each_of count_of (words_of 8 S))) (top_by_summaries (words_of 8 S) (made_words 8 S))

-- the map of a set: tree i is the tree of its part of the set, and bit i of the summary over them is 1 exactly if that part has a slot
pub of_slots_means : (S : Slots) (i : ℕ) → i < 16
    → (tree_at (of_slots S) i ≡ Tree.of_slots (λ s. S (i * 1024 + s))) × ((digit (of_slots S).summary i ≡ true) ↔ SomeUsed S (i * 1024) 1024)
unfolding marks_of
of_slots_means S i l =
    let bit = ((sound_means (of_slots S)).0 (third_view.made_sound S tt)).1 i l in (
      (λ j. tree_of (tree_words words i) (stored_of (made_at summary_of j) (made_at full_of j) (made_at count_of j))) ∙ ap Tree.holding words_made,
      (
        λ e. let some = bit.0 e in (some.0, some.1, sym (same some.0 some.1) ∙ some.2),
        λ some. bit.1 (some.0, some.1, same some.0 some.1 ∙ some.2),
      ),
    )
  where
    words : List ℕ
    words = words_of 8 S

    made_at : (made : List ℕ → ℕ) → get_or (listed (λ k. made (tree_words words k)) 0 16) i 0 ≡ made (tree_words words i)
    made_at made = listed_first (λ k. made (tree_words words k)) 16 i 0 l

    words_made : tree_words (words_of 8 S) i ≡ words_of 4 (λ s. S (i * 1024 + s))
    words_made = listed_is (tree_words (words_of 8 S) i) (word_of (λ s. S (i * 1024 + s))) 16 0 (tree_words_lem (words_of 8 S) (made_words 8 S) i l).so_many (λ k h.
        tree_word (words_of 8 S) i k h
        ∙ listed_first (word_of S) 256 (16 * i + k) 0 (omega arith)
        ∙ number_agree _ _ 64 (λ p q. ap S (omega arith)))

    same : (s : ℕ) → Named (i * 1024) 1024 s → slot_of (of_slots S) s ≡ S s
    same s named = holds_words 8 all_fit S s (omega (arith, named))
