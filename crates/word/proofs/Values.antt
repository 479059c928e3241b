-- What owning a word map tells: it is a value of its type. Assumes nothing.
use mir.Syntax.{w64}
use mir.Val.{Fits}
use denote.Laws.{Is}
use denote.Struct.Declared.{row}
use denote.Struct.Laws.{vals}
use borrow.Author.Rules.{rules}
use Rattle.word.specs.declared.Word.{Word}
use Rattle.word.specs.Layout.{IsWord, is_word_means}
use Rattle.word.specs.contracts.Word.{the_type}
use Rattle.word.proofs.Word.TheLaws.{the_laws}

module _ (w : Word) (good : Is (row the_type) w (vals the_type the_laws w)) where
  bits_fit : Fits w64 w.bits
  bits_fit = search rules

  pub is_word : IsWord w
  is_word = (is_word_means w).1 bits_fit.fits
