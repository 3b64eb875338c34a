use Rattle.std.proofs.Common.{Bool, subst, sym}
use Rattle.awari_words.specs.declared.requests.Question.{Question}
use Rattle.awari_cli.specs.Done.{PrintsAnswer, PrintsServiceBy}
use Rattle.awari_cli.proofs.reading.run_question.Goals as goal

pub returns-in-Serve-clause-answered : goal.returns-in-Serve-clause-answered
returns-in-Serve-clause-answered g c = λ done.
    let stands = (g.F.Folder.state c.args.folder.now).stands in
    let input = g.R.Read.remaining c.args.streams.now.input in
    let before = g.W.Write.contents c.args.streams.now.output in
    let after = g.W.Write.contents c.run_serve_unverified.new.streams.output in
    subst (λ (question : Question). PrintsAnswer question stands input before after) (sym c.in-Serve.is)
    (subst (λ (unverified : Bool). PrintsServiceBy unverified stands input before after) (sym c.if-query-2.true) (c.run_serve_unverified.ensures.served done))
