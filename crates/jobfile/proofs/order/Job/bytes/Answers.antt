use Rattle.std.proofs.Common.{◌≡◌, [], ◌∷◌, ◌++◌, length, vec_items, refl, ap, ◌∙◌}
use Rattle.jobfile.specs.Bytes.{bytes_of_words}
use Rattle.jobfile.specs.Jobs.{scheme_number}
use Rattle.jobfile.proofs.There.{all_pushed}
use Rattle.jobfile.proofs.order.Job.bytes.Goals as goal

pub returns : goal.returns
returns c =
    let p : c.len-program.result ≡ length (vec_items c.args.self.now.program) = c.len-program.ensures ∙ c.args.self.now.program.ok.0 in
    let w : c.len-words.result ≡ length (vec_items c.args.self.now.words) = c.len-words.ensures ∙ c.args.self.now.words.ok.0 in
    all_pushed (vec_items c.new-bytes.result) (vec_items c.push_words.new.bytes) (vec_items c.push_words-2.new.bytes) (vec_items c.push_words-3.new.bytes) (vec_items c.push_words-4.new.bytes) (vec_items c.push_words-5.new.bytes)
    (scheme_number c.args.self.now.setting.scheme ∷ []) c.args.self.now.setting.delays
    (c.args.self.now.setting.capacity ∷ (length (vec_items c.args.self.now.program) ∷ (length (vec_items c.args.self.now.words) ∷ (c.args.self.now.cycles ∷ []))))
    (vec_items c.args.self.now.program) (vec_items c.args.self.now.words)
    c.new-bytes.ensures.items
    (c.in_ok-push_words.ensures refl ∙ ap (λ n. vec_items c.new-bytes.result ++ bytes_of_words (n ∷ [])) c.from.ensures)
    (c.in_ok-push_words-2.ensures refl)
    (c.in_ok-push_words-3.ensures refl ∙ (ap (λ n. vec_items c.push_words-2.new.bytes ++ bytes_of_words (c.args.self.now.setting.capacity ∷ (n ∷ (c.len-words.result ∷ (c.args.self.now.cycles ∷ []))))) p
    ∙ ap (λ n. vec_items c.push_words-2.new.bytes ++ bytes_of_words (c.args.self.now.setting.capacity ∷ (length (vec_items c.args.self.now.program) ∷ (n ∷ (c.args.self.now.cycles ∷ []))))) w))
    (c.in_ok-push_words-4.ensures refl ∙ ap (λ xs. vec_items c.push_words-3.new.bytes ++ bytes_of_words xs) c.as_slice.ensures.value)
    (c.in_ok-push_words-5.ensures refl ∙ ap (λ xs. vec_items c.push_words-4.new.bytes ++ bytes_of_words xs) c.as_slice-2.ensures.value)
