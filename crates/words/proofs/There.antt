-- What reading and storing a word goes by: each word of a place is there, whole words and links.
use Rattle.logic.specs.laws.Test.{if_passed, if_failed}
use Rattle.words.specs.laws.Word.{has_word_lem, link_end}

pub ruleset there = (if_passed, if_failed, has_word_lem, link_end)
