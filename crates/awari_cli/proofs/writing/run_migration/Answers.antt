use Rattle.awari_cli.proofs.HostLaws.{ClosesBoth, brought_lines, others_stay, second_keeps}
use Rattle.awari_cli.proofs.writing.run_migration.Given.{Over}
use Rattle.awari_cli.proofs.writing.run_migration.Goals as goal

-- what was opened and closed
both : (g : Over) (c : goal.After-close-2 g)
    → ClosesBoth g.H.Host.keeps c.args.migration.from.now c.args.migration.to.now (g.H.Host.holds c.args.host.now) (g.H.Host.holds c.close-2.new.self)
    (g.H.Folder.Folder.state c.open-source.result).stands (g.H.Folder.Folder.state c.run_migrate-status.new.from).stands
    (g.H.Folder.Folder.state c.open-target.result).stands (g.H.Folder.Folder.state c.run_migrate-status.new.to).stands
both g c = record {
  first = g.H.Host.holds c.open-source.new.self;
  second = g.H.Host.holds c.open-target.new.self;
  third = g.H.Host.holds c.close.new.self;
  opened_from = c.open-source.ensures.opened;
  others_from = c.open-source.ensures.others;
  opened_to = c.open-target.ensures.opened;
  others_to = c.open-target.ensures.others;
  closed_to = c.close.ensures.closed;
  rest_to = c.close.ensures.others;
  closed_from = c.close-2.ensures.closed;
  rest_from = c.close-2.ensures.others;
}

pub returns-clause-others : goal.returns-clause-others
returns-clause-others g c = others_stay _ _ _ _ _ _ _ _ _ (both g c) c.run_migrate-status.ensures.unchanged.stands

pub returns-clause-kept : goal.returns-clause-kept
returns-clause-kept g c = second_keeps _ _ _ _ _ _ _ _ _ (both g c) c.run_migrate-status.ensures.unchanged.stands c.run_migrate-status.ensures.kept

pub returns-clause-brought : goal.returns-clause-brought
returns-clause-brought g c = λ done. brought_lines _ _ _ _ _ _ _ _ _ _ _ (both g c) (c.run_migrate-status.ensures.migrated done)
