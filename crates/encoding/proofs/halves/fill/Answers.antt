-- The right words are put to what is lent from the place after the last left word.
use Rattle.records.specs.Encoding.{left_word, right_word}
use Rattle.encoding.proofs.WriteLaws.{fill_all}
use Rattle.encoding.proofs.halves.fill.Goals as goal

pub returns : goal.returns
returns c =
    let a = c.args in
    fill_all a.facts.now a.to.now c.put.new.to c.put-2.new.to (c.put.ensures left_word (λ fact word is. is)) (c.put-2.ensures right_word (λ fact word is. is))
