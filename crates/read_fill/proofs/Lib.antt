mod TopLaws
