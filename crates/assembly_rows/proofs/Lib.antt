mod FewNames
