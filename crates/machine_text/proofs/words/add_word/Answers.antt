use Rattle.std.proofs.Common.{◌≡◌, ◌∙◌, ◌+◌, ◌-◌, ◌/◌, ◌%◌, ◌≤◌, ◌++◌, rules, length, take, replicate, vec_len, sym, ap, arith, Ok, Err}
use Rattle.std.proofs.lemmas.List.{take_all}
use Rattle.ar_space.proofs.Outcomes.{answers_is}
use Rattle.machine_text.proofs.Joined.{with_bytes, without_bytes, no_word, odd_word}
use Rattle.machine_text.proofs.Splices.{end_put}
use Rattle.machine_text.proofs.words.add_word.Goals as goal

pub returns-then-is_empty : goal.returns-then-is_empty
returns-then-is_empty c = answers_is (ap Err c.bad_line.ensures ∙ no_word c.args.n c.args.all.now.items c.args.word.now (sym c.if-is_empty.ensures))

pub returns-then-word-ne0 : goal.returns-then-word-ne0
returns-then-word-ne0 c =
    let odd : length c.args.word.now % 2 ≡ 1 = omega (arith, c.if-word-ne0.true) in
    answers_is (ap Err c.bad_line-then-word-ne0.ensures ∙ odd_word c.args.n c.args.all.now.items c.args.word.now odd)

pub returns-then-decode : goal.returns-then-decode
returns-then-decode c =
    let all = c.args.all.now.items in
    let had : length all ≡ c.len-had.result = search rules in
    let n : length c.as_mut_slice.result.now ≡ c.resize.new.self.len = search rules in
    let count : c.len-had.result + length c.decode.new.out ≡ c.resize.new.self.len = search rules in
    let whole : length all ≤ c.len-had.result + length c.args.word.now / 2 = omega (arith, had) in
    let size = c.len-had.result + length c.args.word.now / 2 in
    let zeros = replicate (size - vec_len c.args.all.now) 0 in
    let grown : c.resize.new.self.items ≡ take size all ++ zeros = c.in_ok-resize.ensures.items in
    let same = c.as_mut_slice.ensures.value ∙ grown ∙ ap (λ xs. xs ++ zeros) (take_all (c.len-had.result + length c.args.word.now / 2) all whole) in
    answers_is (ap Ok (end_put c.as_mut_slice.result.now c.decode.new.out all _ _ c.resize.new.self.len c.len-had.result same had n count)
    ∙ with_bytes c.args.n all c.args.word.now c.decode.new.out c.if-decode.ensures)

pub returns-else-decode : goal.returns-else-decode
returns-else-decode c = answers_is (ap Err c.bad_line-else-decode.ensures ∙ without_bytes c.args.n c.args.all.now.items c.args.word.now c.if-decode.ensures)
