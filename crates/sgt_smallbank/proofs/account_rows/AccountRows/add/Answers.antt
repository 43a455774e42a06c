use Rattle.std.proofs.Common.{rules}
use Rattle.sgt_model.specs.Databases.{contents_of}
use Rattle.sgt_smallbank.proofs.JoinedTables.{rows_joined}
use Rattle.sgt_smallbank.proofs.account_rows.AccountRows.add.Goals as goal

pub returns-clause-rows : goal.returns-clause-rows
returns-clause-rows c = λ none.
    let old = c.args.self.now in
    rows_joined (contents_of old.customers) (contents_of old.savings) (contents_of old.checkings)
    old.are_customers old.are_savings old.are_checkings
    (contents_of c.replace.new.self) (contents_of c.replace-2.new.self) (contents_of c.put.new.self) c.args.account.now _ _ _ _ _ _
    c.in_ok-replace.ensures.put c.in_ok-replace-2.ensures.put c.in_ok-put.ensures.put
    (search rules) (search rules) (search rules) (search rules) (search rules) (search rules)
