-- The view of jobs: a tree, which has the used slots, and sixteen words beside it, which have the reaped ones. Rests on `tree` and on the views of `slots`.
use Rattle.std.specs.Prelude.{◌≡◌, refl, ◌↔◌, true, List, ℕ, ◌^◌, ◌<◌, length, get_or}
use Rattle.slots.specs.Sets.{Slots}
use Rattle.slots.specs.Kinds.{plain, State}
use Rattle.slots.specs.View.{View}
use Rattle.slots.specs.Jobs.{jobs}
use Rattle.slots.specs.JobView as AnyView
use Rattle.slots.specs.JobView.{Paired}
use Rattle.views.specs.Painting.{slot_in}
use Rattle.views.proofs.Words.{words_view}
use Rattle.views.specs.Marks.{sixteen_fit}
use Rattle.tree.specs.declared.Tree.{Tree}
use Rattle.tree.specs.Layout as Tree
use Rattle.tree.specs.Layout.{tree_view, slot_of, IsTree}
use Rattle.jobs.specs.declared.Jobs.{Jobs}

abbrev pub jobs_of : Tree → List ℕ → Jobs
jobs_of tree reaped = record { tree = tree; reaped = reaped }

-- slot s is bit s % 64 of word s / 64, in the tree and in the words beside it
abbrev pub reaped_view : View plain
reaped_view = words_view 4 sixteen_fit

abbrev pub in_struct : Paired tree_view reaped_view Jobs
in_struct = record {
  below = λ j. j.tree;
  reaped = λ j. j.reaped;
  pair = jobs_of;
  below_pair = λ b r. refl;
  reaped_pair = λ b r. refl;
  pair_same = λ j. refl;
  same_size = refl;
  always_sound = λ r. tt;
}

abbrev pub jobs_view : View jobs
jobs_view = AnyView.jobs_view tree_view reaped_view Jobs in_struct

-- which slots are used, and which are reaped
abbrev pub marks_of : Jobs → State jobs
marks_of j = jobs_view.state_of j

abbrev pub used_of : Jobs → Slots
used_of j = slot_of j.tree

abbrev pub reaped_of : Jobs → Slots
reaped_of j = slot_in j.reaped

abbrev pub of_marks : State jobs → Jobs
of_marks X = jobs_view.of_state X

-- the tree is sound, and each reaped slot is used
abbrev pub Sound : Jobs → Type 0
Sound j = jobs_view.Sound j

-- a tree, and sixteen words below 2 ^ 64
abbrev pub AreJobs : Jobs → Type 0
AreJobs j = jobs_view.IsMap j

-- ---- what they mean

pub sound_means : (j : Jobs) → Sound j ↔ (Tree.Sound j.tree × ((i : ℕ) → i < 1024 → reaped_of j i ≡ true → used_of j i ≡ true))
sound_means j = (λ sound. (sound.map_sound, sound.reaped_used_lem), λ h. record { map_sound = h.0; reaped_used_lem = h.1 })

pub are_jobs_means : (j : Jobs) → AreJobs j ↔ (IsTree j.tree × (length j.reaped ≡ 16) × ((i : ℕ) → i < 16 → get_or j.reaped i 0 < 2 ^ 64))
are_jobs_means j = (
  λ held. (held.is_map, held.are_reaped.so_many, held.are_reaped.each_fits),
  λ h. record { is_map = h.0; are_reaped = record { so_many = h.1; each_fits = h.2 } },
)
